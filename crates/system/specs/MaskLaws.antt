-- A lawful system under a mask is lawful. Assumes nothing.
use Rattle.std.specs.Prelude.{◌≡◌, ℕ, Bool, true, false, Some, Option}
use Rattle.std.proofs.Common.{arith}
use Rattle.system.specs.Transitions.{Transitions, LawfulTransitions}
use Rattle.system.specs.Justice.{FairSystem, Lawful}
use Rattle.system.specs.Masks.{bit, unless, masked_steps, masked}

-- What is there under the mask is there without it, and the mask does not hide it.
pub unless_some : {A : Type 0} (b : Bool) (o : Option A) (t : A) → unless b o ≡ Some t → (b ≡ false) × (o ≡ Some t)
unless_some true o t e = let z : ◌≡◌ {A = ℕ} 0 1 = cc in absurd (let f : ⊥ = omega arith in f)
unless_some false o t e = (cc, e)

pub masked_steps_lawful : (m : ℕ) (T : Transitions) → LawfulTransitions T → LawfulTransitions (masked_steps m T)
masked_steps_lawful m T l = record {
  some_process = l.some_process;
  few_processes = l.few_processes;
  few_commands = l.few_commands;
  few_states = l.few_states;
  start_below = l.start_below;
  next_below = λ s k t e. l.next_below s k t (unless_some (bit m k) (T.next s k) t e).1;
  region_outside = l.region_outside;
}

pub masked_lawful : (m : ℕ) (S : FairSystem) → Lawful S → Lawful (masked m S)
masked_lawful m S l = record {
  steps = masked_steps_lawful m S.steps l.steps;
  few_classes = l.few_classes;
  class_below = l.class_below;
}
