-- The names that a lock text declares. Assumes nothing.
use Rattle.std.specs.Prelude.{ℕ, ◌+◌, cond, List, [], ◌∷◌, map, take, Some, None, Option}
use Rattle.std.specs.Str.{bytes_eq}
use Rattle.names.specs.declared.list.NameList.{NameList}

-- The names of a list, in the order of their declaration.
abbrev pub listed : NameList → List (List ℕ)
listed t = map (λ p. p.now) (take t.count t.names)

abbrev pub one_further : Option ℕ → Option ℕ
one_further (Some i) = Some (i + 1)
one_further None = None

-- The number of a name in the order of declaration: the first has 0.
abbrev pub index_of : List (List ℕ) → List ℕ → Option ℕ
index_of [] w = None
index_of (v ∷ vs) w = cond (bytes_eq v w) (Some 0) (one_further (index_of vs w))
