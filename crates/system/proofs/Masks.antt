-- Masks in a pile, and masks that agree on the commands.
use Rattle.std.proofs.Common.{◌≡◌, ℕ, zero, suc, ◌/◌, ◌%◌, ◌^◌, ◌<◌, ◌≤◌, Bool, true, false, ◌||◌, eqb, Some, None, Option, sym, refl, ap, ◌∙◌, inl, inr, mod-lt, arith, pow_mono}
use mathlib.Core.Path.{fun_ext}
use native.Mathlib.Nat.{div-eq_of_lt}
use lib.Bits.{bit_and, bit_or}
use Rattle.std.proofs.lemmas.Nat.{and_mask, or_shr, or_mod}
use Rattle.std.proofs.lemmas.Bool.{cases_lt}
use Rattle.system.specs.Transitions.{Transitions, LawfulTransitions}
use Rattle.system.specs.Justice.{FairSystem}
use Rattle.system.specs.Masks.{bit, unless, PilesAreUnions, HighBitsDoNothing}

-- The lowest bit after a shift by k is bit k.
pub bit_shifted : (m k : ℕ) → eqb (bit_and (m / 2 ^ k) 1) 1 ≡ bit m k
bit_shifted m k = ap (λ n. eqb n 1) (and_mask (m / 2 ^ k) 1)

-- A mask of w bits has none beyond them.
pub bit_beyond : (w m k : ℕ) → m < 2 ^ w → w ≤ k → bit m k ≡ false
bit_beyond w m k h l =
    let p : 2 ^ w ≤ 2 ^ k = pow_mono l in
    let z : m / 2 ^ k ≡ 0 = div-eq_of_lt (let lt : m < 2 ^ k = omega arith in lt) in
    ap (λ n. eqb (n % 2) 1) z

digit_or : (x y : ℕ) → x < 2 → y < 2 → eqb (bit_or x y) 1 ≡ (eqb x 1 || eqb y 1)
digit_or zero zero hx hy = refl
digit_or zero (suc zero) hx hy = refl
digit_or zero (suc (suc y)) hx hy = absurd (let f : ⊥ = omega arith in f)
digit_or (suc zero) zero hx hy = refl
digit_or (suc zero) (suc zero) hx hy = refl
digit_or (suc zero) (suc (suc y)) hx hy = absurd (let f : ⊥ = omega arith in f)
digit_or (suc (suc x)) y hx hy = absurd (let f : ⊥ = omega arith in f)

-- A bit of the union is one when it is one in either mask.
pub bit_or_lem : (a b k : ℕ) → bit (bit_or a b) k ≡ (bit a k || bit b k)
bit_or_lem a b k =
    ap (λ n. eqb (n % 2) 1) (or_shr a b k) ∙ ap (λ n. eqb n 1) (or_mod (a / 2 ^ k) (b / 2 ^ k) 1)
    ∙ digit_or ((a / 2 ^ k) % 2) ((b / 2 ^ k) % 2) (mod-lt (a / 2 ^ k) (omega arith)) (mod-lt (b / 2 ^ k) (omega arith))

unless_or : {A : Type 0} (x y : Bool) (o : Option A) → unless x (unless y o) ≡ unless (x || y) o
unless_or true y o = refl
unless_or false y o = refl

pub unless_none : {A : Type 0} (b : Bool) → unless {A = A} b None ≡ None
unless_none true = refl
unless_none false = refl

-- The system with other successors.
abbrev with_next : FairSystem → (ℕ → ℕ → Option ℕ) → FairSystem
with_next S next = record {
  steps = record {
    processes = S.steps.processes;
    commands = S.steps.commands;
    states = S.steps.states;
    start = S.steps.start;
    next = next;
    region = S.steps.region;
  };
  classes = S.classes;
  class = S.class;
}

same_next : (S : FairSystem) (f g : ℕ → ℕ → Option ℕ) → ((s k : ℕ) → f s k ≡ g s k) → with_next S f ≡ with_next S g
same_next S f g h = ap (with_next S) (fun_ext (λ s. fun_ext (h s)))

pub piles_are_unions_lem : PilesAreUnions
piles_are_unions_lem a b S =
    same_next S _ _ (λ s k. unless_or (bit a k) (bit b k) (S.steps.next s k) ∙ ap (λ z. unless z (S.steps.next s k)) (sym (bit_or_lem a b k)))

-- From the number of commands upward there is no successor.
none_beyond : (T : Transitions) → LawfulTransitions T → (s k : ℕ) → T.commands ≤ k → (o : Option ℕ) → T.next s k ≡ o → o ≡ None
none_beyond T l s k h (Some t) e = let w = l.next_below s k t e in absurd (let f : ⊥ = omega arith in f)
none_beyond T l s k h None e = refl

pub high_bits_do_nothing_lem : HighBitsDoNothing
high_bits_do_nothing_lem a b S l agree = same_next S _ _ (λ s k. elim (cases_lt k S.steps.commands) [
  | inl lt ↦ ap (λ z. unless z (S.steps.next s k)) (agree k lt)
  | inr ge ↦
      (let n = none_beyond S.steps l.steps s k ge (S.steps.next s k) refl in
      ap (unless (bit a k)) n ∙ unless_none (bit a k) ∙ sym (ap (unless (bit b k)) n ∙ unless_none (bit b k)))
])
