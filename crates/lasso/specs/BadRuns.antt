-- Bad runs, as lists of steps: a stem to a clash, or a stem and a loop that locks a process out. Assumes nothing.
use Rattle.std.specs.Prelude.{ℕ, ◌<◌, ◌≤◌, ◌⊎◌, List, length, take}
use Rattle.std.specs.List.{ContainsAt as Has}
use Rattle.system.specs.Transitions.{Transitions, Waits, Clash}
use Rattle.system.specs.Runs.{Step, Walk}
use Rattle.system.specs.Justice.{FairSystem, ClassDisabled, OfClass}

-- u is a state of the loop that begins in s: one before a loop step.
abbrev pub LoopState : Transitions → ℕ → List Step → ℕ → Type 0
LoopState T s loop u = (i : ℕ) × (i < length loop) × Walk T s (take i loop) u

-- The stem leads from the start to a clash.
pub record ClashRun (T : Transitions) (stem : List Step) : Type 0 where
  pub last : ℕ
  pub stem_walk : Walk T T.start stem last
  pub clashes : Clash T last

-- The class j is disabled at some state of the loop that begins in s, or taken in it.
abbrev pub TreatedJustly : FairSystem → ℕ → List Step → ℕ → Type 0
TreatedJustly S s loop j =
    ((u : ℕ) × LoopState S.steps s loop u × ClassDisabled S u j) ⊎ ((a : Step) × Has loop a × OfClass S a j)

-- The stem leads from the start to the loop's first state, `head`. The loop has a step and ends where it began, the
-- process p waits at each of its states, and each class is disabled at some of them or taken in it.
pub record LockoutRun (S : FairSystem) (p : ℕ) (stem loop : List Step) : Type 0 where
  pub process_below : p < S.steps.processes
  pub head : ℕ
  pub stem_walk : Walk S.steps S.steps.start stem head
  pub some_step : 1 ≤ length loop
  pub closed : Walk S.steps head loop head
  pub waiting : (u : ℕ) → LoopState S.steps head loop u → Waits S.steps p u
  pub just_loop : (j : ℕ) → j < S.classes → TreatedJustly S head loop j

-- A bad run of a system is of one kind or the other.
pub data BadRun (S : FairSystem) : Type 0 where
  clash : (stem : List Step) → ClashRun S.steps stem → BadRun S
  lockout : (p : ℕ) (stem loop : List Step) → LockoutRun S p stem loop → BadRun S
