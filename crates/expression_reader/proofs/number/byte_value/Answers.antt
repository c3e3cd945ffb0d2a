use Rattle.std.proofs.Common.{arith}
use Rattle.expression_reader.proofs.Values.{too_large, small}
use Rattle.expression_reader.proofs.number.byte_value.Goals as goal

pub returns-then-value-gt-MAX_NUMBER : goal.returns-then-value-gt-MAX_NUMBER
returns-then-value-gt-MAX_NUMBER c =
    too_large c.args.digits.now c.loop-digit.digit-index c.loop-digit.value c.loop-digit-test.true c.loop-digit.invariant.value
    (omega (arith, c.if-value-gt-MAX_NUMBER.true, c.from.ensures, c.saturating_sub.ensures))

pub returns : goal.returns
returns c = small c.args.digits.now c.loop-digit.digit-index c.loop-digit.value c.loop-digit-test.false c.loop-digit.invariant.value c.loop-digit.invariant.fits
