-- What the step rule and the codes promise. Assumes nothing.
use Rattle.std.specs.Prelude.{◌≡◌, ℕ, ◌+◌, ◌*◌, ◌^◌, ◌<◌, ◌≤◌, List, length, ℤ, pos, ◌+ℤ◌, ◌*ℤ◌, Some}
use Rattle.std.specs.List.{slice_get}
use Rattle.system.specs.Justice.{Lawful}
use Rattle.expression.specs.Tree.{number, joined, denial}
use Rattle.expression.specs.declared.Operator.TheVariants.{Minus, Equal}
use Rattle.step_rule.specs.Programs.{Program, Command, product}
use Rattle.step_rule.specs.Codes.{State, WellFormed, IsState, state_count, code_of, state_of, value_radices}
use Rattle.step_rule.specs.Rule.{Steps, remainder, worth}
use Rattle.step_rule.specs.Meaning.{meaning_of}

-- Codes and states are one to one: each state of a program has a code below the count of states, and is the state of
-- that code; each number below the count is the code of a state. The count is the product of the variables' value
-- counts, times the count of locations to the power of the count of processes.
pub record CodesAreOneToOne (p : Program) : Type 0 where
  pub code_below : (s : State) → IsState p s → code_of p s < state_count p
  pub code_back : (s : State) → IsState p s → state_of p (code_of p s) ≡ s
  pub state_there : (n : ℕ) → n < state_count p → IsState p (state_of p n)
  pub state_back : (n : ℕ) → n < state_count p → code_of p (state_of p n) ≡ n
  pub count : state_count p ≡ product (value_radices p.maxima) * length p.locations ^ p.processes

abbrev pub EveryCodeIsOneState : Type 0
EveryCodeIsOneState = (p : Program) → CodesAreOneToOne p

-- A command leads from s to t exactly when the step rule lets it, and then both are codes of states.
abbrev pub CommandsFollowTheRule : Type 0
CommandsFollowTheRule =
    (p : Program) → WellFormed p → (k : ℕ) (c : Command) → slice_get p.commands k ≡ Some c → (s t : ℕ) → s < state_count p → t < state_count p →
    ((meaning_of p).steps.next s k ≡ Some t → Steps p c (state_of p s) (state_of p t)) × (Steps p c (state_of p s) (state_of p t) → (meaning_of p).steps.next s k ≡ Some t)

-- The system of a well-formed program keeps the laws of systems.
abbrev pub ProgramsMeanLawfulSystems : Type 0
ProgramsMeanLawfulSystems = (p : Program) → WellFormed p → Lawful (meaning_of p)

-- The remainder is at most the maximum, and differs from the number by a multiple of one more than the maximum.
pub record IsRemainder (z : ℤ) (maximum r : ℕ) : Type 0 where
  pub small : r ≤ maximum
  pub multiples : ℤ
  pub apart : z ≡ pos r +ℤ (multiples *ℤ pos (maximum + 1))

-- The remainder is one, and there is no other.
abbrev pub RemaindersAreLeast : Type 0
RemaindersAreLeast = (z : ℤ) (maximum : ℕ) → IsRemainder z maximum (remainder z maximum) × ((r : ℕ) → IsRemainder z maximum r → r ≡ remainder z maximum)

-- By a maximum of 3, 3 - 5 is assigned as 2; `not 2 == 1` is 1.
abbrev pub LeafExamples : Type 0
LeafExamples =
    (values : List ℕ) → (remainder (worth values (joined Minus (number 3) (number 5))) 3 ≡ 2) × (worth values (denial (joined Equal (number 2) (number 1))) ≡ pos 1)
