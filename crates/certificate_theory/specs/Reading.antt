-- When a field is right, and which fault of reading decides. Assumes nothing.
use Rattle.std.specs.Prelude.{◌≡◌, ℕ, ◌+◌, ◌<◌, ◌≤◌, Bool, true, false, cond, ◌&&◌, ◌⊎◌, List, [], ◌∷◌, ◌++◌, length, Some, None, Option, ◌==◌, nat_le, nat_lt, slice_index}
use Rattle.byte_numbers.specs.Numbers.{number_at}
use Rattle.certificate_theory.specs.declared.limits.Limits.{Limits}
use Rattle.certificate_theory.specs.declared.refusal.Refusal.{Refusal}
use Rattle.certificate_theory.specs.declared.refusal.Refusal.TheVariants.{Length, KindByte, State, Class}
use Rattle.certificate_theory.specs.Fields.{Field, kind, count, state, class, number, width, widths, fields}

-- s is above the state before it in its list, if there is one.
abbrev pub Above : Option ℕ → ℕ → Type 0
Above None s = Unit {0}
Above (Some b) s = b < s

-- What the field says is right: the kind byte is the one that is wanted; a state is one of the system, above the one
-- before it; a class is one of the system.
abbrev pub RightContent : Limits → List ℕ → ℕ → Field → Type 0
RightContent L bytes at kind = slice_index bytes at ≡ L.kind
RightContent L bytes at count = Unit {0}
RightContent L bytes at (state before) = (number_at bytes at < L.states) × Above before (number_at bytes at)
RightContent L bytes at class = slice_index bytes at < L.classes
RightContent L bytes at number = Unit {0}

-- The field that begins at the index `at` is whole, and what it says is right.
abbrev pub Right : Limits → List ℕ → ℕ → Field → Type 0
Right L bytes at f = (at + width f ≤ length bytes) × RightContent L bytes at f

-- The fields, the first of which begins at the index `at`, are all right.
abbrev pub AllRight : Limits → List ℕ → ℕ → List Field → Type 0
AllRight L bytes at [] = Unit {0}
AllRight L bytes at (f ∷ fs) = Right L bytes at f × AllRight L bytes (at + width f) fs

-- The bytes read as a certificate: all fields are right, and nothing is surplus.
pub record Reads (L : Limits) (bytes : List ℕ) : Type 0 where
  pub fields_right : AllRight L bytes 0 (fields L bytes)
  pub no_surplus : length bytes ≡ widths (fields L bytes)

-- What is refused where the content of a whole field is wrong. Of a count and of a number none is.
abbrev pub fault : ℕ → Field → Refusal
fault at kind = KindByte
fault at count = Length at
fault at (state before) = State at
fault at class = Class at
fault at number = Length at

-- The field that begins at the index `at` is refused by e: it is missing or cut; or it is whole, and its content wrong.
abbrev pub Fault : Limits → List ℕ → ℕ → Field → Refusal → Type 0
Fault L bytes at f e =
    ((length bytes < at + width f) × (e ≡ Length at))
    ⊎ ((at + width f ≤ length bytes) × (¬ RightContent L bytes at f) × (e ≡ fault at f))

-- Reading from the front, e refuses the first field that is not right.
pub record FieldRefused (L : Limits) (bytes : List ℕ) (e : Refusal) : Type 0 where
  pub before : List Field
  pub field : Field
  pub after : List Field
  pub in_order : fields L bytes ≡ before ++ (field ∷ after)
  pub right_before : AllRight L bytes 0 before
  pub refused : Fault L bytes (widths before) field e

-- All fields are right, and e refuses what is surplus behind them.
pub record SurplusRefused (L : Limits) (bytes : List ℕ) (e : Refusal) : Type 0 where
  pub fields_right : AllRight L bytes 0 (fields L bytes)
  pub surplus : widths (fields L bytes) < length bytes
  pub refused : e ≡ Length (widths (fields L bytes))

-- The one right refusal of reading.
abbrev pub ReadingRefused : Limits → List ℕ → Refusal → Type 0
ReadingRefused L bytes e = FieldRefused L bytes e ⊎ SurplusRefused L bytes e

-- The same as tests that compute.
abbrev pub is_above_lem : Option ℕ → ℕ → Bool
is_above_lem None s = true
is_above_lem (Some b) s = nat_lt b s

abbrev pub is_right : Limits → List ℕ → ℕ → Field → Bool
is_right L bytes at kind = slice_index bytes at == L.kind
is_right L bytes at count = true
is_right L bytes at (state before) = nat_lt (number_at bytes at) L.states && is_above_lem before (number_at bytes at)
is_right L bytes at class = nat_lt (slice_index bytes at) L.classes
is_right L bytes at number = true

-- The first of two answers, if there is one, else the second.
abbrev pub first_of : Option Refusal → Option Refusal → Option Refusal
first_of (Some e) o = Some e
first_of None o = o

abbrev pub field_fault : Limits → List ℕ → ℕ → Field → Option Refusal
field_fault L bytes at f =
    cond (nat_le (at + width f) (length bytes)) (cond (is_right L bytes at f) None (Some (fault at f))) (Some (Length at))

-- The fault of the first field that is not right, the first field beginning at the index `at`.
abbrev pub first_fault : Limits → List ℕ → ℕ → List Field → Option Refusal
first_fault L bytes at [] = None
first_fault L bytes at (f ∷ fs) = first_of (field_fault L bytes at f) (first_fault L bytes (at + width f) fs)

-- What reading refuses, if anything.
abbrev pub reading_fault : Limits → List ℕ → Option Refusal
reading_fault L bytes =
    first_of (first_fault L bytes 0 (fields L bytes))
    (cond (nat_lt (widths (fields L bytes)) (length bytes)) (Some (Length (widths (fields L bytes)))) None)

-- Reading finds no fault.
abbrev pub is_none : Option Refusal → Bool
is_none (Some e) = false
is_none None = true

abbrev pub reads_whole : Limits → List ℕ → Bool
reads_whole L bytes = is_none (reading_fault L bytes)
