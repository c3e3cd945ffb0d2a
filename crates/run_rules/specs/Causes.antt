-- Why bytes are refused as a run, cause by cause, and which cause decides. Assumes nothing.
use Rattle.std.specs.Prelude.{◌≡◌, ℕ, ◌+◌, ◌<◌, ◌≤◌, ◌⊎◌, List, ◌++◌, length, take, slice_index, slice_index_or}
use Rattle.std.specs.List.{ContainsAt as Has}
use Rattle.system.specs.Transitions.{Enabled, Waits, Clash}
use Rattle.system.specs.Runs.{Step, command, rest, Walk}
use Rattle.system.specs.Justice.{FairSystem, ClassDisabled, OfClass}
use Rattle.lasso.specs.BadRuns.{LoopState}
use Rattle.place.specs.declared.Place.{Place}
use Rattle.run_refusal.specs.declared.RunRefusal.{RunRefusal}
use Rattle.run_refusal.specs.declared.RunRefusal.TheVariants.{WrongLength, WrongKind, WrongProcess, WrongStep, WrongLoopCount, StepDisabled, NoClash, LoopOpen, NotWaiting, ClassNeglected}
use Rattle.run_refusal.specs.Refusals.{number, placed, Earlier}
use Rattle.run_rules.specs.Layout.{kind_byte, process_byte, stem_length, loop_length, end, stem, cycle}

-- A step's byte is at i.
abbrev pub StepAt : List ℕ → ℕ → Type 0
StepAt bytes i =
    ((6 ≤ i) × (i < 6 + stem_length bytes)) ⊎ ((10 + stem_length bytes ≤ i) × (i < end bytes))

-- A field of w bytes begins at i: of one byte the kind, the process and each step, of four the two counts.
abbrev pub Field : List ℕ → ℕ → ℕ → Type 0
Field bytes i w =
    ((w ≡ 1) × ((i < 2) ⊎ StepAt bytes i)) ⊎ ((w ≡ 4) × ((i ≡ 2) ⊎ (i ≡ 6 + stem_length bytes)))

-- The stem leads from the start to s.
abbrev pub StemTo : FairSystem → List ℕ → ℕ → Type 0
StemTo S bytes s = Walk S.steps S.steps.start (stem bytes) s

-- What each refusal says of the bytes.
abbrev pub Cause : FairSystem → List ℕ → RunRefusal → Type 0
-- a field that begins at i is missing or cut, or i is the first byte past the last field
Cause S bs (WrongLength i) = ((w : ℕ) × Field bs i w × (length bs < i + w)) ⊎ ((i ≡ end bs) × (i < length bs))
Cause S bs WrongKind = (0 < length bs) × ¬ (kind_byte bs ≡ 1) × ¬ (kind_byte bs ≡ 2)
Cause S bs WrongProcess =
    (1 < length bs) × ((S.steps.processes ≤ process_byte bs) ⊎ ((kind_byte bs ≡ 1) × ¬ (process_byte bs ≡ 0)))
Cause S bs (WrongStep i) =
    StepAt bs i × (i < length bs) × ¬ (slice_index bs i ≡ 255) × (S.steps.commands ≤ slice_index bs i)
Cause S bs (WrongLoopCount i) =
    (i ≡ 6 + stem_length bs) × (i + 4 ≤ length bs)
    × (((kind_byte bs ≡ 2) × (loop_length bs ≡ 0)) ⊎ ((kind_byte bs ≡ 1) × ¬ (loop_length bs ≡ 0)))
-- the steps before the step i, of stem and loop, lead to a state where its command k is disabled
Cause S bs (StepDisabled i k) =
    (s : ℕ) × Walk S.steps S.steps.start (take i (stem bs ++ cycle bs)) s × (i < length (stem bs ++ cycle bs))
    × (slice_index_or (stem bs ++ cycle bs) i rest ≡ command k) × ¬ Enabled S.steps s k
Cause S bs (NoClash s) = (kind_byte bs ≡ 1) × StemTo S bs s × ¬ Clash S.steps s
Cause S bs (LoopOpen t) = (kind_byte bs ≡ 2) × ((s : ℕ) × StemTo S bs s × Walk S.steps s (cycle bs) t × ¬ (s ≡ t))
Cause S bs (NotWaiting p u) =
    (kind_byte bs ≡ 2) × (p ≡ process_byte bs)
    × ((s : ℕ) × StemTo S bs s × LoopState S.steps s (cycle bs) u × ¬ Waits S.steps p u)
-- the class j is enabled at each loop state, and taken by no step of the loop
Cause S bs (ClassNeglected j) =
    (kind_byte bs ≡ 2) × (j < S.classes)
    × ((s : ℕ) × StemTo S bs s
    × ((u : ℕ) → LoopState S.steps s (cycle bs) u → ¬ ClassDisabled S u j)
    × ((a : Step) → Has (cycle bs) a → ¬ OfClass S a j))

-- Numbers up to 35 are faults found while reading.
abbrev pub Reading : ℕ → Type 0
Reading n = n ≤ 35

-- The place a comes before b: by process, then state or step, then command or class.
abbrev pub PlaceBefore : Place → Place → Type 0
PlaceBefore a b =
    (a.process < b.process) ⊎ ((a.process ≡ b.process)
    × ((a.index < b.index) ⊎ ((a.index ≡ b.index) × (a.command < b.command))))

-- Reading goes from the front, and the first fault decides, at one byte the earlier cause; reading comes before all
-- else. After reading the earlier cause decides, and of one cause the first place.
abbrev pub Ahead : ℕ → Place → ℕ → Place → Type 0
Ahead m a n b =
    (Reading m × Reading n × ((a.index < b.index) ⊎ ((a.index ≡ b.index) × Earlier m n)))
    ⊎ ((Reading m × ¬ Reading n)
    ⊎ (¬ Reading m × ¬ Reading n × (Earlier m n ⊎ ((m ≡ n) × PlaceBefore a b))))

-- The one right refusal: what it says holds, and of no refusal ahead of it.
pub record RightRefusal (S : FairSystem) (bytes : List ℕ) (e : RunRefusal) : Type 0 where
  pub holds : Cause S bytes e
  pub first : (d : RunRefusal) → Cause S bytes d → ¬ Ahead (number d) (placed d) (number e) (placed e)
