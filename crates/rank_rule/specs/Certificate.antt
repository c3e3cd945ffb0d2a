-- What a certificate says, apart from its bytes. Assumes nothing.
use Rattle.std.specs.Prelude.{◌≡◌, ℕ, List, [], slice_index_or}
use Rattle.std.specs.List.{ContainsAt as Has}
use Rattle.rank.specs.declared.Row.{Row}

-- The state list, and for each process from 0 upward its rows. A rank stands as its numbers.
pub record Certificate : Type 0 where
  pub listed : List ℕ
  pub rows : List (List (Row (List ℕ)))

abbrev pub Listed : Certificate → ℕ → Type 0
Listed C s = Has C.listed s

-- The rows of the process p; none where the certificate has no list for it.
abbrev pub rows_of : Certificate → ℕ → List (Row (List ℕ))
rows_of C p = slice_index_or C.rows p []

-- `row` is a row of the process p at the state s.
abbrev pub RowAt : Certificate → ℕ → ℕ → Row (List ℕ) → Type 0
RowAt C p s row = Has (rows_of C p) row × (row.state ≡ s)

-- The process p has a row at the state s.
abbrev pub HasRow : Certificate → ℕ → ℕ → Type 0
HasRow C p s = (row : Row (List ℕ)) × RowAt C p s row
