-- That a program is well formed has one proof at most.
use Rattle.std.proofs.Common.{ℕ, List, [], ◌∷◌, Some, None, Option}
use mathlib.Core.HLevel.{⊥_prop, Unit-prop, ¬_prop, ×_prop}
use mathlib.Core.Logic.{∥∥₁_elim}
use native.Mathlib.Bridge.{le_prop}
use Rattle.std.specs.List.{AllByRecursion}
use Rattle.expression.specs.Tree.{Tree, number, variable, denial, joined, Within}
use Rattle.step_rule.specs.Programs.{Program, Command, Assignment, GoodTree, GoodAssignment, Spares, AssignedOnce, GoodClass, GoodCommand, DigitsBelow}
use Rattle.step_rule.specs.Codes.{WellFormed}

pub all_prop : {X : Type 0} (P : X → Type 0) → ((x : X) → IsProp (P x)) → (xs : List X) → IsProp (AllByRecursion P xs)
all_prop P h [] = Unit-prop
all_prop P h (x ∷ xs) = ×_prop (h x) (all_prop P h xs)

digits_prop : (rs ds : List ℕ) → IsProp (DigitsBelow rs ds)
digits_prop [] [] = Unit-prop
digits_prop [] (d ∷ ds) = ⊥_prop
digits_prop (r ∷ rs) [] = ⊥_prop
digits_prop (r ∷ rs) (d ∷ ds) = ×_prop le_prop (digits_prop rs ds)

within_prop : (n : ℕ) (e : Tree) → IsProp (Within n e)
within_prop n (number k) = le_prop
within_prop n (variable v) = le_prop
within_prop n (denial e) = within_prop n e
within_prop n (joined o a b) = ×_prop (within_prop n a) (within_prop n b)

tree_prop : (n : ℕ) (e : Tree) → IsProp (GoodTree n e)
tree_prop n e = ×_prop (within_prop n e) le_prop

assignment_prop : (n : ℕ) (a : Assignment) → IsProp (GoodAssignment n a)
assignment_prop n a = ×_prop le_prop (tree_prop n a.source)

once_prop : (as' : List Assignment) → IsProp (AssignedOnce as')
once_prop [] = Unit-prop
once_prop (a ∷ rest) = ×_prop (all_prop (Spares a.target) (λ b. ¬_prop) rest) (once_prop rest)

class_prop : (j : ℕ) (o : Option ℕ) → IsProp (GoodClass j o)
class_prop j None = Unit-prop
class_prop j (Some c) = le_prop

command_prop : (p l j n : ℕ) (c : Command) → IsProp (GoodCommand p l j n c)
command_prop p l j n c a b = λ i. record {
  process_below = le_prop a.process_below b.process_below i;
  from_below = le_prop a.from_below b.from_below i;
  to_below = le_prop a.to_below b.to_below i;
  class_below = class_prop j c.class a.class_below b.class_below i;
  guard_good = tree_prop n c.guard a.guard_good b.guard_good i;
  assignments_good = all_prop (GoodAssignment n) (assignment_prop n) c.assignments a.assignments_good b.assignments_good i;
  assigned_once = once_prop c.assignments a.assigned_once b.assigned_once i;
}

pub well_formed_prop : (p : Program) → IsProp (WellFormed p)
well_formed_prop p a b = λ i. record {
  some_process = le_prop a.some_process b.some_process i;
  few_processes = le_prop a.few_processes b.few_processes i;
  few_variables = le_prop a.few_variables b.few_variables i;
  byte_maxima = all_prop _ (λ m. le_prop) p.maxima a.byte_maxima b.byte_maxima i;
  initials_below = digits_prop _ p.initials a.initials_below b.initials_below i;
  some_location = le_prop a.some_location b.some_location i;
  few_locations = le_prop a.few_locations b.few_locations i;
  few_classes = le_prop a.few_classes b.few_classes i;
  few_commands = le_prop a.few_commands b.few_commands i;
  commands_good = all_prop _ (command_prop _ _ _ _) p.commands a.commands_good b.commands_good i;
  few_states = le_prop a.few_states b.few_states i;
}

pub well_formed : (p : Program) → ∥ WellFormed p ∥₁ → WellFormed p
well_formed p t = ∥∥₁_elim t (well_formed_prop p) (λ w. w)
