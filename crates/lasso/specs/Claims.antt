-- What a bad run proves of its system. Assumes nothing.
use Rattle.std.specs.Prelude.{◌≡◌, ℕ, ◌+◌, ◌*◌, ◌<◌, List, length, slice_index_or}
use Rattle.system.specs.Transitions.{Transitions}
use Rattle.system.specs.Runs.{Step, rest, Run, ReachesClash, LeavesTrying}
use Rattle.system.specs.Justice.{FairSystem, Just, CorrectLock}
use Rattle.lasso.specs.BadRuns.{ClashRun, LockoutRun, BadRun}

-- From a clash run, an endless run that reaches a clash.
abbrev pub ClashRunReachesClash : Type 0
ClashRunReachesClash = (T : Transitions) (stem : List Step) → ClashRun T stem → (r : Run T) × ReachesClash r

-- The run takes the steps of the stem, and then those of the loop again and again: for each n an n-th time.
abbrev pub StemThenLoop : {T : Transitions} → List Step → List Step → Run T → Type 0
StemThenLoop stem loop r =
    ((i : ℕ) → i < length stem → r.step i ≡ slice_index_or stem i rest)
    × ((n i : ℕ) → i < length loop → r.step (length stem + n * length loop + i) ≡ slice_index_or loop i rest)

-- From a lockout, a just run that leaves the process trying for ever: the stem, then the loop without end.
abbrev pub LockoutLeavesTrying : Type 0
LockoutLeavesTrying =
    (S : FairSystem) (p : ℕ) (stem loop : List Step) → LockoutRun S p stem loop →
    (r : Run S.steps) × StemThenLoop stem loop r × Just S r × LeavesTrying r p

-- A system with a bad run is no correct lock.
abbrev pub BadRunBreaksLock : Type 0
BadRunBreaksLock = (S : FairSystem) → BadRun S → ¬ CorrectLock S
