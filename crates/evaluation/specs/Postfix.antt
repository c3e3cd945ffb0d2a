-- Postfix items worked out over a stack of operands. Assumes nothing.
use Rattle.std.specs.Prelude.{◌≡◌, ℕ, ◌≤◌, Bool, cond, ◌&&◌, List, [], ◌∷◌, length, ℤ, pos, negsuc, Some, None, Option, int_le, nat_lt}
use Rattle.expression.specs.Tree.{Tree, Within, operands, items, applied, denied, max_operands}
use Rattle.expression.specs.declared.Operator.{Operator}
use Rattle.expression.specs.declared.Item.{Item}
use Rattle.expression.specs.declared.Item.TheVariants.{Number, Variable, Not, Operator as Joins}
use Rattle.step_rule.specs.Rule.{vars_of, worth}

-- The greatest size of a value: each of at most 32 operands is at most 255.
abbrev pub largest : ℕ
largest = 8160

-- No larger than that, either way.
abbrev pub small : ℤ → Bool
small z = int_le (negsuc 8159) z && int_le z (pos 8160)

-- One operand more, where there is room.
abbrev pub pushed : ℕ → ℤ → List ℤ → Option (List ℤ)
pushed places z stack = cond (nat_lt (length stack) places) (Some (z ∷ stack)) None

-- The operator on two operands that are small.
abbrev pub joined_small : ℕ → Operator → ℤ → ℤ → List ℤ → Option (List ℤ)
joined_small places o a b stack = cond (small a && small b) (pushed places (applied o a b) stack) None

-- What one item makes of the stack, its top first. None where a place, a variable or an operand is missing, or an operand
-- is too large.
abbrev pub stepped : ℕ → List ℕ → Item → List ℤ → Option (List ℤ)
stepped places values (Number n) stack = pushed places (pos n) stack
stepped places values (Variable v) stack = cond (nat_lt v (length values)) (pushed places (vars_of values v) stack) None
stepped places values Not [] = None
stepped places values Not (a ∷ stack) = pushed places (denied a) stack
stepped places values (Joins o) [] = None
stepped places values (Joins o) (b ∷ []) = None
stepped places values (Joins o) (b ∷ a ∷ stack) = joined_small places o a b stack

-- The one operand that is left at the end.
abbrev pub single : List ℤ → Option ℤ
single [] = None
single (z ∷ []) = Some z
single (z ∷ y ∷ stack) = None

-- The items one after another; the answer is the one operand left.
abbrev pub worked_out : ℕ → List ℕ → List Item → Option (List ℤ) → Option ℤ
worked_out places values [] None = None
worked_out places values [] (Some stack) = single stack
worked_out places values (x ∷ xs) None = None
worked_out places values (x ∷ xs) (Some stack) = worked_out places values xs (stepped places values x stack)

-- The items of every expression within the limits give its value, over a stack of 32 places.
abbrev pub GivesValues : List Item → List ℕ → ℕ → Option ℤ → Type 0
GivesValues code values places r =
    (e : Tree) → code ≡ items e → Within (length values) e → operands e ≤ max_operands → max_operands ≤ places → r ≡ Some (worth values e)
