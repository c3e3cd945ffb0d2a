use Rattle.std.proofs.Common.{◌≡◌, ap, ◌∙◌, arith}
use Rattle.system.specs.Tests.{some_below, enables}
use Rattle.system.proofs.Decided.{class_enabled_told}
use Rattle.class_set.proofs.enabled_classes.Goals as goal

pub returns-clause-decides : goal.returns-clause-decides
returns-clause-decides g c j =
    let S = g.S.System.meaning c.args.system.now in
    let n : c.loop-command.command ≡ S.steps.commands = omega (arith, c.commands-command-end.ensures) in
    class_enabled_told S (g.met.S.System.lawful c.args.system.now) c.args.state j _ (c.loop-command.invariant j ∙ ap (some_below (enables S c.args.state j)) n)
