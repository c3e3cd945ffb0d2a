-- A lock program in the words of its language, and when it is well formed. Assumes nothing.
use Rattle.std.specs.Prelude.{◌≡◌, ℕ, ◌*◌, ◌<◌, ◌≤◌, List, [], ◌∷◌, Some, None, Option}
use Rattle.std.specs.List.{AllByRecursion}
use Rattle.expression.specs.Tree.{Tree, Within, operands, max_operands}
use Rattle.system.specs.declared.Region.{Region}

-- The most processes, variables, locations, classes, commands and states of a program, and the greatest maximum.
abbrev pub max_processes : ℕ
max_processes = 8

abbrev pub max_variables : ℕ
max_variables = 12

abbrev pub max_locations : ℕ
max_locations = 16

abbrev pub max_classes : ℕ
max_classes = 16

abbrev pub max_commands : ℕ
max_commands = 64

abbrev pub max_states : ℕ
max_states = 65536

abbrev pub max_maximum : ℕ
max_maximum = 255

-- A variable, by its number, and the expression whose value it is given.
pub record Assignment : Type 0 where
  pub target : ℕ
  pub source : Tree

-- A guarded command: whose it is, from which location to which, its class or none, its guard, its assignments.
pub record Command : Type 0 where
  pub process : ℕ
  pub from : ℕ
  pub to : ℕ
  pub class : Option ℕ
  pub guard : Tree
  pub assignments : List Assignment

-- Processes, variables, locations, classes and commands are numbered from 0 in the order of the text. Each variable has
-- a maximum and an initial value, and each location a region.
pub record Program : Type 0 where
  pub processes : ℕ
  pub maxima : List ℕ
  pub initials : List ℕ
  pub locations : List Region
  pub classes : ℕ
  pub commands : List Command

-- The program that has only been declared: no classes and no commands.
abbrev pub declared : ℕ → List ℕ → List ℕ → List Region → Program
declared processes maxima initials locations = record {
  processes = processes;
  maxima = maxima;
  initials = initials;
  locations = locations;
  classes = 0;
  commands = [];
}

-- The expression is over the first n variables, and within the limit on its operands.
abbrev pub GoodTree : ℕ → Tree → Type 0
GoodTree n e = Within n e × (operands e ≤ max_operands)

-- The assignment is to one of the first n variables.
abbrev pub GoodAssignment : ℕ → Assignment → Type 0
GoodAssignment n a = (a.target < n) × GoodTree n a.source

-- The assignment is to another variable than v.
abbrev pub Spares : ℕ → Assignment → Type 0
Spares v a = ¬ (a.target ≡ v)

-- No variable is assigned twice.
abbrev pub AssignedOnce : List Assignment → Type 0
AssignedOnce [] = Unit {0}
AssignedOnce (a ∷ rest) = AllByRecursion (Spares a.target) rest × AssignedOnce rest

-- The class, where there is one, is among the first j.
abbrev pub GoodClass : ℕ → Option ℕ → Type 0
GoodClass j None = Unit {0}
GoodClass j (Some c) = c < j

-- A command of one of the first processes, between two of the first locations, over the first n variables.
pub record GoodCommand (processes locations classes n : ℕ) (c : Command) : Type 0 where
  pub process_below : c.process < processes
  pub from_below : c.from < locations
  pub to_below : c.to < locations
  pub class_below : GoodClass classes c.class
  pub guard_good : GoodTree n c.guard
  pub assignments_good : AllByRecursion (GoodAssignment n) c.assignments
  pub assigned_once : AssignedOnce c.assignments

abbrev pub product : List ℕ → ℕ
product [] = 1
product (r ∷ rs) = r * product rs

-- As many digits as radices, and each digit is below its radix.
abbrev pub DigitsBelow : List ℕ → List ℕ → Type 0
DigitsBelow [] [] = Unit {0}
DigitsBelow [] (d ∷ ds) = ⊥
DigitsBelow (r ∷ rs) [] = ⊥
DigitsBelow (r ∷ rs) (d ∷ ds) = (d < r) × DigitsBelow rs ds
