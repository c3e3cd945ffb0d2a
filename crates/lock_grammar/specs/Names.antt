-- Names that a lock text declares, and the program that it gives. Assumes nothing.
use Rattle.std.specs.Prelude.{ℕ, ◌+◌, cond, List, [], ◌∷◌, ◌++◌, length, Some, None, Option}
use Rattle.std.specs.Str.{bytes_eq}
use Rattle.system.specs.declared.Region.{Region}
use Rattle.expression.specs.Tree.{items}
use Rattle.step_rule.specs.Programs.{Program, Command, Assignment}

abbrev pub Name : Type 0
Name = List ℕ

abbrev pub one_later : Option ℕ → Option ℕ
one_later None = None
one_later (Some i) = Some (i + 1)

-- The number of the first of these names that is w, if one is.
unfoldable pub index_of : List Name → Name → Option ℕ
index_of [] w = None
index_of (n ∷ ns) w = cond (bytes_eq w n) (Some 0) (one_later (index_of ns w))

-- The variables declared so far, in the order of the text.
pub record Variables : Type 0 where
  pub names : List Name
  pub maxima : List ℕ
  pub initials : List ℕ

abbrev pub no_variables : Variables
no_variables = record { names = []; maxima = []; initials = [] }

abbrev pub with_variable : Variables → Name → ℕ → ℕ → Variables
with_variable before w maximum initial = record {
  names = before.names ++ (w ∷ []);
  maxima = before.maxima ++ (maximum ∷ []);
  initials = before.initials ++ (initial ∷ []);
}

-- The locations declared so far, in the order of the text.
pub record Locations : Type 0 where
  pub names : List Name
  pub regions : List Region

abbrev pub no_locations : Locations
no_locations = record { names = []; regions = [] }

abbrev pub with_location : Locations → Name → Region → Locations
with_location before w region = record { names = before.names ++ (w ∷ []); regions = before.regions ++ (region ∷ []) }

-- The program of a text.
abbrev pub program : ℕ → Variables → Locations → ℕ → List Command → Program
program processes variables locations classes commands = record {
  processes = processes;
  maxima = variables.maxima;
  initials = variables.initials;
  locations = locations.regions;
  classes = classes;
  commands = commands;
}

-- How many numbers, variables, operators and `not`s the right sides of these assignments have.
abbrev pub assigned_items : List Assignment → ℕ
assigned_items [] = 0
assigned_items (a ∷ rest) = length (items a.source) + assigned_items rest

-- And a command's guard and right sides.
abbrev pub command_items : Command → ℕ
command_items c = length (items c.guard) + assigned_items c.assignments

-- And all guards and right sides of these commands.
abbrev pub item_count : List Command → ℕ
item_count [] = 0
item_count (c ∷ rest) = command_items c + item_count rest
