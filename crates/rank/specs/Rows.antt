-- Rows: a state, a class and a rank; and when one row may follow another. Assumes nothing.
use Rattle.std.specs.Prelude.{◌≡◌, ℕ, ◌⊎◌, List}
use Rattle.rank.specs.Kinds.{Kind, Below, Same}
use Rattle.rank.specs.declared.Row.{Row}

-- The row with the numbers that its rank means in place of the rank.
abbrev pub with_numbers : {R : Type 0} → (R → List ℕ) → Row R → Row (List ℕ)
with_numbers value row = record { state = row.state; class = row.class; rank = value row.rank }

-- From `row` to `after` the rank falls; or it is the same, both rows name one class, and that class is not taken.
abbrev pub Falls : Kind → Row (List ℕ) → Row (List ℕ) → Type 0 → Type 0
Falls K row after Taken =
    Below K after.rank row.rank ⊎ (Same K after.rank row.rank × (after.class ≡ row.class) × ¬ Taken)
