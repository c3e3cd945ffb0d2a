-- A lock written out in arrays, and the system that they mean. Assumes nothing.
use Rattle.std.specs.Prelude.{◌≡◌, ℕ, ◌+◌, ◌*◌, ◌<◌, cond, ◌&&◌, List, length, All, IfSome, Some, None, Option, nat_lt, slice_index_or}
use Rattle.system.specs.Justice.{FairSystem}
use Rattle.system.specs.declared.Region.{Region}
use Rattle.system.specs.declared.Region.TheVariants.{Idle}
use Rattle.table.specs.declared.shape.Shape.{Shape}

-- The entry in the given row and column of a table of so many rows and columns, row by row in a list; d where
-- there is none.
abbrev pub cell : {A : Type 0} → List A → ℕ → ℕ → ℕ → ℕ → A → A
cell xs row rows column columns d = cond (nat_lt row rows && nat_lt column columns) (slice_index_or xs (row * columns + column) d) d

-- The entry itself where its number is below n, else none.
abbrev pub if_below : ℕ → Option ℕ → Option ℕ
if_below n (Some a) = cond (nat_lt a n) (Some a) None
if_below n None = None

-- The system of the arrays: a row of successors for each state, one row of classes, and a row of regions for
-- each state. An entry that is missing or out of range stands for none, and for idle.
abbrev pub table_system : Shape → List (Option ℕ) → List (Option ℕ) → List Region → FairSystem
table_system h successors classed regions = record {
  steps = record {
    processes = h.processes;
    commands = h.commands;
    states = h.states;
    start = h.start;
    next = λ s k. if_below h.states (cell successors s h.states k h.commands None);
    region = λ s p. cell regions s h.states p h.processes Idle;
  };
  classes = h.classes;
  class = λ k. if_below h.classes (cell classed 0 1 k h.commands None);
}

-- Every entry is a number below n, or none.
abbrev pub EachBelow : List (Option ℕ) → ℕ → Type 0
EachBelow xs n = All (λ entry. IfSome entry (λ a. a < n)) xs

-- The arrays have one entry for each question.
abbrev pub RightLengths : Shape → List (Option ℕ) → List (Option ℕ) → List Region → Type 0
RightLengths h successors classed regions =
    (length successors ≡ h.states * h.commands) × (length classed ≡ h.commands) × (length regions ≡ h.states * h.processes)

-- One entry for each question, and no number out of range.
pub record WellFormed (h : Shape) (successors classed : List (Option ℕ)) (regions : List Region) : Type 0 where
  pub right_lengths : RightLengths h successors classed regions
  pub states_below : EachBelow successors h.states
  pub classes_below : EachBelow classed h.classes
