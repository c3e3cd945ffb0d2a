use Rattle.std.proofs.Common.{refl}
use Rattle.expression_reader.proofs.Readings.{exit, operand_many, operand_full, operand_took}
use Rattle.expression_reader.proofs.reader.Reader.operand.Goals as goal

pub returns-then-self-ge-MAX_OPERANDS : goal.returns-then-self-ge-MAX_OPERANDS
returns-then-self-ge-MAX_OPERANDS c scope t e is look tok = operand_many _ _ c.args.self.now _ look e c.if-self-ge-MAX_OPERANDS.true

pub returns-in_err-count : goal.returns-in_err-count
returns-in_err-count c scope t e is look tok =
    exit _ _ _ _ _ _ c.from_residual.ensures.1 (operand_full _ _ c.args.self.now _ look e _ c.if-self-ge-MAX_OPERANDS.false c.in_err-count.ensures)

pub returns : goal.returns
returns c scope t e is look tok =
    operand_took _ _ c.args.self.now _ look e c.count.new.self _ _ c.args.item is tok c.if-self-ge-MAX_OPERANDS.false c.in_ok-count.ensures refl refl refl refl refl c.push.ensures
