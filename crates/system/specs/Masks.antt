-- A system under a mask of its commands. Assumes nothing.
use Rattle.std.specs.Prelude.{◌≡◌, ℕ, ◌/◌, ◌%◌, ◌^◌, ◌<◌, Bool, true, false, None, Option, ◌==◌, bit_or}
use Rattle.system.specs.Transitions.{Transitions}
use Rattle.system.specs.Justice.{FairSystem, Lawful}

-- Bit k of the mask m is one.
abbrev pub bit : ℕ → ℕ → Bool
bit m k = (m / 2 ^ k) % 2 == 1

-- None where b is true, else o.
abbrev pub unless : {A : Type 0} → Bool → Option A → Option A
unless true o = None
unless false o = o

-- The commands whose bits are set have no successor; all else is as in T.
abbrev pub masked_steps : ℕ → Transitions → Transitions
masked_steps m T = record {
  processes = T.processes;
  commands = T.commands;
  states = T.states;
  start = T.start;
  next = λ s k. unless (bit m k) (T.next s k);
  region = T.region;
}

-- A masked command keeps its class.
abbrev pub masked : ℕ → FairSystem → FairSystem
masked m S = record { steps = masked_steps m S.steps; classes = S.classes; class = S.class }

-- Two masks in a pile mean their union.
abbrev pub PilesAreUnions : Type 0
PilesAreUnions = (a b : ℕ) (S : FairSystem) → masked a (masked b S) ≡ masked (bit_or a b) S

-- Bits from the number of commands upward have no effect: masks that agree below it mean the same system.
abbrev pub HighBitsDoNothing : Type 0
HighBitsDoNothing =
    (a b : ℕ) (S : FairSystem) → Lawful S → ((k : ℕ) → k < S.steps.commands → bit a k ≡ bit b k) → masked a S ≡ masked b S
