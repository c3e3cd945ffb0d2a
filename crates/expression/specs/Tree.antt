-- An expression as a tree: its value, its size and its postfix items. Assumes nothing.
use Rattle.std.specs.Prelude.{List, [], ◌∷◌, ◌++◌, Bool, true, false, not, ◌&&◌, ◌||◌, ℕ, ◌+◌, ◌<◌, ℤ, pos, ◌+ℤ◌, ◌-ℤ◌}
use Rattle.std.specs.Int.Signed.{lt_z, le_z}
use Rattle.expression.specs.declared.Operator.{Operator}
use Rattle.expression.specs.declared.Operator.TheVariants.{Or, And, Equal, NotEqual, Less, LessEqual, Plus, Minus}
use Rattle.expression.specs.declared.Item.{Item}
use Rattle.expression.specs.declared.Item.TheVariants as Items

-- A number, a variable by its number, a denial, or two parts and the operator between them.
pub data Tree : Type 0 where
  number : ℕ → Tree
  variable : ℕ → Tree
  denial : Tree → Tree
  joined : Operator → Tree → Tree → Tree

-- Truth is non-zero; a test gives 1 or 0.
abbrev pub truth : Bool → ℤ
truth true = pos 1
truth false = pos 0

abbrev pub is_true : ℤ → Bool
is_true z = lt_z z (pos 0) || lt_z (pos 0) z

-- What an operator makes of the values on its left and right.
abbrev pub applied : Operator → ℤ → ℤ → ℤ
applied Or a b = truth (is_true a || is_true b)
applied And a b = truth (is_true a && is_true b)
applied Equal a b = truth (le_z a b && le_z b a)
applied NotEqual a b = truth (not (le_z a b && le_z b a))
applied Less a b = truth (lt_z a b)
applied LessEqual a b = truth (le_z a b)
applied Plus a b = a +ℤ b
applied Minus a b = a -ℤ b

abbrev pub denied : ℤ → ℤ
denied a = truth (not (is_true a))

-- The value of an expression where the variables have these values.
abbrev pub value : (ℕ → ℤ) → Tree → ℤ
value vars (number n) = pos n
value vars (variable v) = vars v
value vars (denial e) = denied (value vars e)
value vars (joined o a b) = applied o (value vars a) (value vars b)

-- How many numbers and variables it has.
abbrev pub operands : Tree → ℕ
operands (number n) = 1
operands (variable v) = 1
operands (denial e) = operands e
operands (joined o a b) = operands a + operands b

-- Its postfix items: each operator after its two parts.
abbrev pub items : Tree → List Item
items (number n) = Items.Number n ∷ []
items (variable v) = Items.Variable v ∷ []
items (denial e) = items e ++ (Items.Not ∷ [])
items (joined o a b) = items a ++ (items b ++ (Items.Operator o ∷ []))

-- Its numbers are at most 255, and its variables are below n.
abbrev pub Within : ℕ → Tree → Type 0
Within n (number k) = k < 256
Within n (variable v) = v < n
Within n (denial e) = Within n e
Within n (joined o a b) = Within n a × Within n b

-- The most numbers and variables of one expression, and the most levels open at once.
abbrev pub max_operands : ℕ
max_operands = 32

abbrev pub max_levels : ℕ
max_levels = 8

-- The most items of all expressions of a text.
abbrev pub max_items : ℕ
max_items = 4096
