-- The limit of a list of names. Assumes nothing.
use Rattle.std.specs.Prelude.{ℕ}

-- The most names of a list: a text has at most 12 variables and 16 locations.
abbrev pub max_names : ℕ
max_names = 16
