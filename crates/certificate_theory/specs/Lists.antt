-- Lists of states in bytes, as reading leaves them. Assumes nothing.
use Rattle.std.specs.Prelude.{◌≡◌, ℕ, ◌+◌, ◌*◌, ◌<◌, ◌≤◌, List, length, Some, None, Option}
use Rattle.byte_numbers.specs.Numbers.{number_at}

-- The state at the head of the entry i, where the entries begin at the index `at` and have w bytes each.
abbrev pub state_of : List ℕ → ℕ → ℕ → ℕ → ℕ
state_of bytes at w i = number_at bytes (at + w * i)

-- The states of the first m entries strictly ascend.
abbrev pub Ascends : List ℕ → ℕ → ℕ → ℕ → Type 0
Ascends bytes at w m = (i j : ℕ) → i < j → j < m → state_of bytes at w i < state_of bytes at w j

-- From the index `at` on there are m entries of w bytes each, all within the bytes. Each begins with a state below
-- `bound`, and the states strictly ascend.
pub record StateList (bytes : List ℕ) (at w m bound : ℕ) : Type 0 where
  pub within : at + w * m ≤ length bytes
  pub below : (i : ℕ) → i < m → state_of bytes at w i < bound
  pub ascend : Ascends bytes at w m

-- The entry of the state s among m, or that there is none.
abbrev pub Found : List ℕ → ℕ → ℕ → ℕ → ℕ → Option ℕ → Type 0
Found bytes at w m s (Some i) = (i < m) × (state_of bytes at w i ≡ s)
Found bytes at w m s None = (i : ℕ) → i < m → ¬ (state_of bytes at w i ≡ s)
