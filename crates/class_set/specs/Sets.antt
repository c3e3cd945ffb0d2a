-- Sets of classes as masks: the class j is in the set when bit j is one. Assumes nothing.
use Rattle.std.specs.Prelude.{◌≡◌, ℕ, ◌<◌, Bool, true, false, Some, None, Option}

-- The lowest number below n that passes the test, or none where no number below n passes it.
abbrev pub IsLowest : (ℕ → Bool) → ℕ → Option ℕ → Type 0
IsLowest f n (Some j) = (j < n) × (f j ≡ true) × ((k : ℕ) → k < j → f k ≡ false)
IsLowest f n None = (k : ℕ) → k < n → f k ≡ false
