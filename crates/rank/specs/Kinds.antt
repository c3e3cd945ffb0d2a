-- Kinds of rank. A rank is its numbers; a kind says how many they are, and which rank is below which, or the same.
-- Assumes nothing.
use Rattle.std.specs.Prelude.{◌≡◌, ℕ, zero, suc, ◌+◌, Bool, true, cond, ◌&&◌, ◌||◌, List, [], ◌∷◌, Some, None, Option, ◌==◌, nat_lt, slice_index}
use Rattle.byte_numbers.specs.Numbers.{number_at}

-- `byte` is the kind byte of a certificate with such ranks, `numbers` how many numbers of four bytes a rank has.
pub record Kind : Type 0 where
  pub byte : ℕ
  pub numbers : ℕ
  pub below : List ℕ → List ℕ → Bool
  pub same : List ℕ → List ℕ → Bool

abbrev pub Below : Kind → List ℕ → List ℕ → Type 0
Below K a b = K.below a b ≡ true

abbrev pub Same : Kind → List ℕ → List ℕ → Type 0
Same K a b = K.same a b ≡ true

-- A single number.
abbrev pub single_kind : Kind
single_kind = record {
  byte = 1;
  numbers = 1;
  below = λ a b. nat_lt (slice_index a 0) (slice_index b 0);
  same = λ a b. (slice_index a 0 == slice_index b 0);
}

-- Two numbers, compared by the first, then the second.
abbrev pub pair_kind : Kind
pair_kind = record {
  byte = 2;
  numbers = 2;
  below = λ a b. nat_lt (slice_index a 0) (slice_index b 0) || (slice_index a 0 == slice_index b 0 && nat_lt (slice_index a 1) (slice_index b 1));
  same = λ a b. (slice_index a 0 == slice_index b 0) && (slice_index a 1 == slice_index b 1);
}

-- The kind that a kind byte stands for, if any.
abbrev pub kind_of : ℕ → Option Kind
kind_of b = cond (b == 1) (Some single_kind) (cond (b == 2) (Some pair_kind) None)

-- The n numbers of four bytes each from the index `at` on.
abbrev pub numbers_at : List ℕ → ℕ → ℕ → List ℕ
numbers_at bytes at zero = []
numbers_at bytes at (suc n) = number_at bytes at ∷ numbers_at bytes (at + 4) n
