-- The bytes of a certificate, from what it says. Assumes nothing.
use Rattle.std.specs.Prelude.{ℕ, List, [], ◌∷◌, ◌++◌, length}
use Rattle.byte_numbers.specs.Numbers.{encoded}
use Rattle.rank.specs.declared.Row.{Row}
use Rattle.rank_rule.specs.Certificate.{Certificate}

-- Numbers of four bytes, one after the other.
abbrev pub numbers_bytes : List ℕ → List ℕ
numbers_bytes [] = []
numbers_bytes (n ∷ ns) = encoded n ++ numbers_bytes ns

-- A row: its state, its class byte, the numbers of its rank.
abbrev pub row_bytes : Row (List ℕ) → List ℕ
row_bytes row = encoded row.state ++ ((row.class ∷ []) ++ numbers_bytes row.rank)

abbrev pub rows_bytes : List (Row (List ℕ)) → List ℕ
rows_bytes [] = []
rows_bytes (row ∷ rows) = row_bytes row ++ rows_bytes rows

-- The rows of each process, with their count before them.
abbrev pub row_lists_bytes : List (List (Row (List ℕ))) → List ℕ
row_lists_bytes [] = []
row_lists_bytes (rows ∷ lists) = (encoded (length rows) ++ rows_bytes rows) ++ row_lists_bytes lists

-- The kind byte, the state list with its count, and the rows.
abbrev pub certificate_bytes : ℕ → Certificate → List ℕ
certificate_bytes kind C =
    (kind ∷ []) ++ ((encoded (length C.listed) ++ numbers_bytes C.listed) ++ row_lists_bytes C.rows)
