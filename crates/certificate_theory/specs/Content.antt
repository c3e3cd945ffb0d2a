-- What the bytes of a certificate say. Assumes nothing.
use Rattle.std.specs.Prelude.{ℕ, zero, suc, ◌+◌, ◌*◌, List, [], ◌∷◌, slice_index}
use Rattle.byte_numbers.specs.Numbers.{number_at}
use Rattle.system.specs.Justice.{FairSystem}
use Rattle.rank.specs.declared.Row.{Row}
use Rattle.rank.specs.Kinds.{Kind, numbers_at}
use Rattle.rank_rule.specs.Certificate.{Certificate}
use Rattle.certificate_theory.specs.declared.limits.Limits.{Limits}
use Rattle.certificate_theory.specs.Fields.{list_end}

abbrev pub limits_of_lem : Kind → FairSystem → Limits
limits_of_lem K S = record {
  kind = K.byte;
  numbers = K.numbers;
  processes = S.steps.processes;
  classes = S.classes;
  states = S.steps.states;
}

-- The row that begins at the index `at`, with a rank of n numbers.
abbrev pub row_at : ℕ → List ℕ → ℕ → Row (List ℕ)
row_at n bytes at = record { state = number_at bytes at; class = slice_index bytes (at + 4); rank = numbers_at bytes (at + 5) n }

-- m rows, one after the other.
abbrev pub rows_at : ℕ → List ℕ → ℕ → ℕ → List (Row (List ℕ))
rows_at n bytes at zero = []
rows_at n bytes at (suc m) = row_at n bytes at ∷ rows_at n bytes (at + (5 + 4 * n)) m

-- The rows of m processes, each list with its count before it.
abbrev pub row_lists_at : ℕ → List ℕ → ℕ → ℕ → List (List (Row (List ℕ)))
row_lists_at n bytes at zero = []
row_lists_at n bytes at (suc m) =
    rows_at n bytes (at + 4) (number_at bytes at) ∷ row_lists_at n bytes (list_end bytes at (5 + 4 * n)) m

-- The certificate that the bytes say.
abbrev pub content : Limits → List ℕ → Certificate
content L bytes = record {
  listed = numbers_at bytes 5 (number_at bytes 1);
  rows = row_lists_at L.numbers bytes (list_end bytes 1 4) L.processes;
}

-- Where lists of rows begin at the index `at`, the index at which the p-th of them does.
abbrev pub list_start : ℕ → List ℕ → ℕ → ℕ → ℕ
list_start n bytes at zero = at
list_start n bytes at (suc p) = list_end bytes (list_start n bytes at p) (5 + 4 * n)

-- The index at which the rows of the process p begin, with their count.
abbrev pub rows_start : ℕ → List ℕ → ℕ → ℕ
rows_start n bytes p = list_start n bytes (list_end bytes 1 4) p
