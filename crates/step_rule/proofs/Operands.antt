-- Operands of an expression.
use Rattle.std.proofs.Common.{◌≤◌, arith}
use Rattle.expression.specs.Tree.{Tree, number, variable, denial, joined, operands}

-- An expression has an operand at least.
pub some_operand : (e : Tree) → 1 ≤ operands e
some_operand (number k) = omega arith
some_operand (variable v) = omega arith
some_operand (denial e) = some_operand e
some_operand (joined o a b) = omega (arith, some_operand a)
