-- What is proved of runs as bytes. Assumes nothing.
use Rattle.std.specs.Prelude.{◌≡◌, ℕ, ◌⊎◌, List}
use Rattle.system.specs.Runs.{Run, ReachesClash, LeavesTrying}
use Rattle.system.specs.Justice.{FairSystem, Lawful, Just}
use Rattle.run_refusal.specs.declared.RunRefusal.{RunRefusal}
use Rattle.run_rules.specs.Layout.{BadBytes, kind_byte, process_byte}
use Rattle.run_rules.specs.Causes.{RightRefusal}

-- At most one refusal is right.
abbrev pub OneRightRefusal : Type 0
OneRightRefusal =
    (S : FairSystem) (bytes : List ℕ) (d e : RunRefusal) → RightRefusal S bytes d → RightRefusal S bytes e → d ≡ e

-- None is right for the bytes of a bad run.
abbrev pub BadBytesAreNotRefused : Type 0
BadBytesAreNotRefused =
    (S : FairSystem) → Lawful S → (bytes : List ℕ) → BadBytes S bytes → (e : RunRefusal) → ¬ RightRefusal S bytes e

-- A clash (kind byte 1) with a run that reaches a clash, or a lockout (kind byte 2) with a just run that leaves the
-- process of the process byte trying for ever.
abbrev pub Condemned : FairSystem → List ℕ → Type 0
Condemned S bytes =
    ((kind_byte bytes ≡ 1) × ((r : Run S.steps) × ReachesClash r))
    ⊎ ((kind_byte bytes ≡ 2) × ((r : Run S.steps) × Just S r × LeavesTrying r (process_byte bytes)))

-- The bytes of a bad run condemn the lock.
abbrev pub BadBytesCondemn : Type 0
BadBytesCondemn = (S : FairSystem) (bytes : List ℕ) → BadBytes S bytes → Condemned S bytes
