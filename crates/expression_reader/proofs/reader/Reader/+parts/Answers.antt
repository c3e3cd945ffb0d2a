use Rattle.std.proofs.Common.{refl, rules}
use Rattle.expression.specs.Tree.{number, variable}
use Rattle.expression.specs.declared.Item.TheVariants as Items
use Rattle.expression_grammar.specs.declared.kind.Kind.TheVariants.{Number, Variable}
use Rattle.expression_reader.proofs.Readings.{exit, first_refused, going_more, going_full, going_refused, going_done, not_shut, not_full, not_refused, not_took, plain_refused, plain_took, test_full, test_refused, test_took, wrong_refused, large_refused, unknown_refused, operand_reads, open_shut, open_refused, closed_reads}
use Rattle.expression_reader.proofs.reader.Reader.+parts.Goals as goal

pub parts-returns-in_err-part : goal.parts-returns-in_err-part
parts-returns-in_err-part t c = exit _ _ _ _ _ _ c.from_residual.ensures.1 (first_refused _ _ _ _ _ c.in_err-part.ensures)

pub parts-returns-in_err-count : goal.parts-returns-in_err-count
parts-returns-in_err-count t c = exit _ _ _ _ _ _ c.from_residual-in_err-count.ensures.1 (going_full _ _ _ _ c.loop-sign.self _ _ c.in-Some.ensures.0 c.in-Some.ensures.1 c.args.self.now c.part.new.self c.in_ok-part.ensures c.loop-sign.invariant _ c.in_err-count.ensures)

pub parts-returns-in_err-part-2 : goal.parts-returns-in_err-part-2
parts-returns-in_err-part-2 t c = exit _ _ _ _ _ _ c.from_residual-in_err-part-2.ensures.1 (going_refused _ _ _ _ c.loop-sign.self _ _ c.in-Some.ensures.0 c.in-Some.ensures.1 c.args.self.now c.part.new.self c.in_ok-part.ensures c.loop-sign.invariant c.count.new.self _ c.in_ok-count.ensures c.in_err-part-2.ensures)

pub parts-loop-sign-preserved : goal.parts-loop-sign-preserved
parts-loop-sign-preserved t c = going_more _ _ _ _ c.loop-sign.self _ _ c.in-Some.ensures.0 c.in-Some.ensures.1 c.part.new.self c.count.new.self c.part-in-Some.new.self _ c.loop-sign.invariant c.in_ok-count.ensures c.in_ok-part-2.ensures c.push.ensures

pub parts-returns : goal.parts-returns
parts-returns t c = going_done _ _ _ _ c.args.self.now c.part.new.self c.loop-sign.self c.in_ok-part.ensures c.loop-sign.invariant c.in_default.ensures

pub factor-returns-then-left-eq0 : goal.factor-returns-then-left-eq0
factor-returns-then-left-eq0 t c = not_shut _ _ c.args.self.now _ _ c.look-seen.ensures (search rules) c.if-left-eq0.true

pub factor-returns-in_err-count : goal.factor-returns-in_err-count
factor-returns-in_err-count t c = exit _ _ _ _ _ _ c.from_residual.ensures.1 (not_full _ _ c.args.self.now _ _ c.look-seen.ensures (search rules) c.if-left-eq0.false _ c.in_err-count.ensures)

pub factor-returns-in_err-factor : goal.factor-returns-in_err-factor
factor-returns-in_err-factor t c = exit _ _ _ _ _ _ c.from_residual-in_err-factor.ensures.1 (not_refused _ _ c.args.self.now _ _ c.look-seen.ensures (search rules) c.if-left-eq0.false c.count.new.self _ c.in_ok-count.ensures c.in_err-factor.ensures)

pub factor-returns-then-eq : goal.factor-returns-then-eq
factor-returns-then-eq t c = not_took _ _ c.args.self.now _ _ c.look-seen.ensures (search rules) c.if-left-eq0.false c.count.new.self c.factor.new.self _ c.in_ok-count.ensures c.in_ok-factor.ensures c.push.ensures

pub factor-returns-in_err-part : goal.factor-returns-in_err-part
factor-returns-in_err-part t c = exit _ _ _ _ _ _ c.from_residual-in_err-part.ensures.1 (plain_refused _ _ c.args.self.now _ _ c.look-seen.ensures (search rules) _ c.in_err-part.ensures)

pub factor-returns-in_err-count-2 : goal.factor-returns-in_err-count-2
factor-returns-in_err-count-2 t c = exit _ _ _ _ _ _ c.from_residual-in_err-count-2.ensures.1 (test_full _ _ c.args.self.now _ _ c.look-seen.ensures (search rules) _ c.in_ok-part.ensures _ c.in-Some.ensures.0 _ c.in-Some.ensures.1 _ c.in_err-count-2.ensures)

pub factor-returns-in_err-part-2 : goal.factor-returns-in_err-part-2
factor-returns-in_err-part-2 t c = exit _ _ _ _ _ _ c.from_residual-in_err-part-2.ensures.1 (test_refused _ _ c.args.self.now _ _ c.look-seen.ensures (search rules) _ c.in_ok-part.ensures _ c.in-Some.ensures.0 _ c.in-Some.ensures.1 c.count-in-Some.new.self _ c.in_ok-count-2.ensures c.in_err-part-2.ensures)

pub factor-returns-in_ok-part-2 : goal.factor-returns-in_ok-part-2
factor-returns-in_ok-part-2 t c = test_took _ _ c.args.self.now _ _ c.look-seen.ensures (search rules) _ c.in_ok-part.ensures _ c.in-Some.ensures.0 _ c.in-Some.ensures.1 c.count-in-Some.new.self c.part-in-Some.new.self _ c.in_ok-count-2.ensures c.in_ok-part-2.ensures c.push-in-Some.ensures

pub factor-returns-in_default : goal.factor-returns-in_default
factor-returns-in_default t c = plain_took _ _ c.args.self.now _ _ c.look-seen.ensures (search rules) _ c.in_ok-part.ensures c.in_default.ensures

pub atom-returns-in-Number : goal.atom-returns-in-Number
atom-returns-in-Number t c = operand_reads _ _ c.args.self.now _ _ c.look-seen.ensures (Number c.in-Number.value) (number c.in-Number.value) (Items.Number c.in-Number.value) _ _ c.in-Number.is tt refl refl c.operand.ensures

pub atom-returns-in-Variable : goal.atom-returns-in-Variable
atom-returns-in-Variable t c = operand_reads _ _ c.args.self.now _ _ c.look-seen.ensures (Variable c.in-Variable.number) (variable c.in-Variable.number) (Items.Variable c.in-Variable.number) _ _ c.in-Variable.is tt refl refl c.operand-in-Variable.ensures

pub atom-returns-in-Large : goal.atom-returns-in-Large
atom-returns-in-Large t c = large_refused _ _ c.args.self.now _ _ c.look-seen.ensures c.in-Large.is

pub atom-returns-in-Unknown : goal.atom-returns-in-Unknown
atom-returns-in-Unknown t c = unknown_refused _ _ c.args.self.now _ _ c.look-seen.ensures c.in-Unknown.is

pub atom-returns-then-left-eq0 : goal.atom-returns-then-left-eq0
atom-returns-then-left-eq0 t c = open_shut _ _ c.args.self.now _ _ c.look-seen.ensures c.in-Open.is c.if-left-eq0.true

pub atom-returns-in_err-parts-in-Open : goal.atom-returns-in_err-parts-in-Open
atom-returns-in_err-parts-in-Open t c = exit _ _ _ _ _ _ c.from_residual.ensures.1 (open_refused _ _ c.args.self.now _ _ c.look-seen.ensures c.in-Open.is c.if-left-eq0.false c.pass.new.self c.pass.ensures _ c.in_err-parts-in-Open.ensures)

pub atom-returns-in_ok-parts-in-Open : goal.atom-returns-in_ok-parts-in-Open
atom-returns-in_ok-parts-in-Open t c = closed_reads _ _ c.args.self.now _ _ c.look-seen.ensures c.in-Open.is c.if-left-eq0.false c.pass.new.self c.pass.ensures c.parts.new.self c.in_ok-parts-in-Open.ensures _ _ c.close.ensures

pub atom-returns-in_default : goal.atom-returns-in_default
atom-returns-in_default t c = wrong_refused _ _ c.args.self.now _ _ c.look-seen.ensures _ c.in_default.not-Number c.in_default.not-Large c.in_default.not-Variable c.in_default.not-Unknown c.in_default.not-Open c.unwanted.ensures
