-- The fields of a certificate, from the front. Assumes nothing.
use Rattle.std.specs.Prelude.{ℕ, zero, suc, ◌+◌, ◌*◌, List, [], ◌∷◌, ◌++◌, Some, None, Option}
use Rattle.byte_numbers.specs.Numbers.{number_at}
use Rattle.certificate_theory.specs.declared.limits.Limits.{Limits}

-- The kind byte, the count of a list, a state with the one before it in its list, if any, a class byte, and one of the
-- numbers of a rank.
pub data Field : Type 0 where
  kind : Field
  count : Field
  state : Option ℕ → Field
  class : Field
  number : Field

-- How many bytes a field has.
abbrev pub width : Field → ℕ
width kind = 1
width count = 4
width (state before) = 4
width class = 1
width number = 4

abbrev pub widths : List Field → ℕ
widths [] = 0
widths (f ∷ fs) = width f + widths fs

-- The n numbers of a rank.
abbrev pub rank_fields : ℕ → List Field
rank_fields zero = []
rank_fields (suc n) = number ∷ rank_fields n

-- What follows the state in a row: a class byte and a rank.
abbrev pub row_tail : ℕ → List Field
row_tail n = class ∷ rank_fields n

-- The n entries of a list that begin at the index `at`: each is a state and the fields of `tail`.
abbrev pub entries : List ℕ → ℕ → List Field → Option ℕ → ℕ → List Field
entries bytes at tail before zero = []
entries bytes at tail before (suc n) =
    state before ∷ (tail ++ entries bytes (at + (4 + widths tail)) tail (Some (number_at bytes at)) n)

-- A list that begins at the index `at`: its count, and that many entries.
abbrev pub list_fields : List ℕ → ℕ → List Field → List Field
list_fields bytes at tail = count ∷ entries bytes (at + 4) tail None (number_at bytes at)

-- The index behind a list whose entries have w bytes each.
abbrev pub list_end : List ℕ → ℕ → ℕ → ℕ
list_end bytes at w = at + 4 + w * number_at bytes at

-- The rows of n processes, one list after the other.
abbrev pub row_lists : ℕ → List ℕ → ℕ → ℕ → List Field
row_lists numbers bytes at zero = []
row_lists numbers bytes at (suc n) =
    list_fields bytes at (row_tail numbers) ++ row_lists numbers bytes (list_end bytes at (5 + 4 * numbers)) n

-- The kind byte, the state list, and the rows of each process from 0 upward.
abbrev pub fields : Limits → List ℕ → List Field
fields L bytes =
    kind ∷ (list_fields bytes 1 [] ++ row_lists L.numbers bytes (list_end bytes 1 4) L.processes)
