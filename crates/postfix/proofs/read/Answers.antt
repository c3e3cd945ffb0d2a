use Rattle.std.proofs.Common.{◌+◌, drop, sym, refl, ◌∙◌}
use Rattle.postfix.proofs.Trees.{ahead, at_end}
use Rattle.postfix.proofs.read.Goals as goal

pub returns-in_err-read : goal.returns-in_err-read
returns-in_err-read c =
    let xs = c.args.items.now in
    rw c.from_residual.ensures (sym (ahead c.args.variables xs c.loop-item.item-index _ _ c.loop-item.read.0 c.loop-item.read.1.0 _ c.loop-item-test.true refl c.loop-item.invariant.2) ∙ c.in_err-read.ensures (drop (c.loop-item.item-index + 1) xs))

pub loop-item-preserved : goal.loop-item-preserved
loop-item-preserved c =
    let xs = c.args.items.now in
    (c.in_ok-read.read.few, c.in_ok-read.read.deep, sym (c.in_ok-read.ensures (drop (c.loop-item.item-index + 1) xs)) ∙ ahead c.args.variables xs c.loop-item.item-index _ _ c.loop-item.read.0 c.loop-item.read.1.0 _ c.loop-item-test.true refl c.loop-item.invariant.2)

pub returns : goal.returns
returns c = sym (at_end c.args.variables c.args.items.now c.loop-item.item-index c.loop-item.read.0 c.loop-item.read.1.0 _ c.loop-item-test.false c.loop-item.invariant.2)
