-- What a mask does to runs, to justice and to a lock. Assumes nothing.
use Rattle.std.specs.Prelude.{◌≡◌, ℕ, true, false, ◌↔◌, Some, None}
use Rattle.system.specs.Transitions.{Transitions, Enabled}
use Rattle.system.specs.Runs.{command, Run, ReachesClash}
use Rattle.system.specs.Justice.{FairSystem, Lawful, ClassEnabled, Just, CorrectLock}
use Rattle.system.specs.Masks.{bit, masked_steps, masked}

-- The two runs go through the same states by the same steps.
pub record SameCourse {T U : Transitions} (r : Run T) (q : Run U) : Type 0 where
  pub states : (i : ℕ) → r.state i ≡ q.state i
  pub steps : (i : ℕ) → r.step i ≡ q.step i

-- The run takes no command that the mask hides.
abbrev pub TakesNone : {T : Transitions} → ℕ → Run T → Type 0
TakesNone m r = (i k : ℕ) → r.step i ≡ command k → bit m k ≡ false

-- The runs of a masked system are exactly the runs of the system below that take no masked command.
pub record MaskedRuns (m : ℕ) (T : Transitions) : Type 0 where
  pub are_below : (r : Run (masked_steps m T)) → (q : Run T) × SameCourse r q × TakesNone m q
  pub are_all : (q : Run T) → TakesNone m q → (r : Run (masked_steps m T)) × SameCourse r q

abbrev pub MaskedRunsTakeNoMaskedCommand : Type 0
MaskedRunsTakeNoMaskedCommand = (m : ℕ) (T : Transitions) → MaskedRuns m T

-- A class is enabled under the mask exactly when some command of it is enabled that the mask leaves.
abbrev pub MaskedClasses : Type 0
MaskedClasses =
    (m : ℕ) (S : FairSystem) (s j : ℕ) →
    ClassEnabled (masked m S) s j ↔ ((k : ℕ) × (bit m k ≡ false) × (S.class k ≡ Some j) × Enabled S.steps s k)

-- A run that is just below is just under the mask: a class that is disabled below is disabled there too.
abbrev pub JusticeCarriesUp : Type 0
JusticeCarriesUp =
    (m : ℕ) (S : FairSystem) (r : Run (masked_steps m S.steps)) (q : Run S.steps) → SameCourse r q → Just S q → Just (masked m S) r

-- Where no masked command has a class, justice is the same on both sides.
abbrev pub ClasslessMasksKeepJustice : Type 0
ClasslessMasksKeepJustice =
    (m : ℕ) (S : FairSystem) → ((k : ℕ) → bit m k ≡ true → S.class k ≡ None) →
    (r : Run (masked_steps m S.steps)) (q : Run S.steps) → SameCourse r q → Just S q ↔ Just (masked m S) r

-- Elsewhere justice need not carry down: a run of a lawful system that is just under a mask, where the only
-- command of a class is hidden, and not just below, where that class is always enabled and never taken.
pub record JustOnlyUnderMask : Type 0 where
  pub system : FairSystem
  pub lawful : Lawful system
  pub mask : ℕ
  pub above : Run (masked_steps mask system.steps)
  pub below : Run system.steps
  pub same : SameCourse above below
  pub just_above : Just (masked mask system) above
  pub not_below : ¬ Just system below

-- So a mask can spoil a lock: one that is correct without the mask, and not under it.
pub record MaskSpoils : Type 0 where
  pub system : FairSystem
  pub lawful : Lawful system
  pub correct : CorrectLock system
  pub mask : ℕ
  pub spoilt : ¬ CorrectLock (masked mask system)

-- But no mask brings a clash.
abbrev pub MasksBringNoClash : Type 0
MasksBringNoClash =
    (m : ℕ) (T : Transitions) → ((q : Run T) → ¬ ReachesClash q) → (r : Run (masked_steps m T)) → ¬ ReachesClash r
