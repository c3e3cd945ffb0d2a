-- A system: a transition system whose commands are sorted into justice classes; justice, which is weak
-- fairness by class; and what a lock should be. Assumes nothing.
use Rattle.std.specs.Prelude.{◌≡◌, ℕ, ◌<◌, ◌≤◌, ◌⊎◌, Some, Option}
use Rattle.system.specs.Transitions.{Transitions, LawfulTransitions, Enabled}
use Rattle.system.specs.Runs.{Step, command, rest, Run, ReachesClash, LeavesTrying}

-- `class k` is the justice class of the command k, or none.
pub record FairSystem : Type 0 where
  pub steps : Transitions
  pub classes : ℕ
  pub class : ℕ → Option ℕ

-- The laws of the transitions, at most sixteen classes, and only commands of the system have one, below their count.
pub record Lawful (S : FairSystem) : Type 0 where
  pub steps : LawfulTransitions S.steps
  pub few_classes : S.classes ≤ 16
  pub class_below : (k j : ℕ) → S.class k ≡ Some j → (k < S.steps.commands) × (j < S.classes)

-- The class j is enabled at s: some command of it is.
abbrev pub ClassEnabled : FairSystem → ℕ → ℕ → Type 0
ClassEnabled S s j = (k : ℕ) × (S.class k ≡ Some j) × Enabled S.steps s k

-- The class j is disabled at s: no command of it is enabled.
abbrev pub ClassDisabled : FairSystem → ℕ → ℕ → Type 0
ClassDisabled S s j = ¬ ClassEnabled S s j

-- The step is of the class j. Rest is of none.
abbrev pub OfClass : FairSystem → Step → ℕ → Type 0
OfClass S (command k) j = S.class k ≡ Some j
OfClass S rest j = ⊥

-- It happens again and again: for each n there is an m, not before n, where it happens.
abbrev pub InfinitelyOften : (ℕ → Type 0) → Type 0
InfinitelyOften P = (n : ℕ) → (m : ℕ) × (n ≤ m) × P m

-- A run is just when each class is infinitely often disabled or infinitely often taken.
abbrev pub Just : (S : FairSystem) → Run S.steps → Type 0
Just S r =
    (j : ℕ) → j < S.classes →
    InfinitelyOften (λ i. ClassDisabled S (r.state i) j) ⊎ InfinitelyOften (λ i. OfClass S (r.step i) j)

-- What a lock should be: no run reaches a clash, and no just run leaves a process trying for ever.
pub record CorrectLock (S : FairSystem) : Type 0 where
  pub no_clash : (r : Run S.steps) → ¬ ReachesClash r
  pub no_lockout : (r : Run S.steps) → Just S r → (p : ℕ) → p < S.steps.processes → ¬ LeavesTrying r p
