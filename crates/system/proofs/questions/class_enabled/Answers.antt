use Rattle.std.proofs.Common.{◌≡◌, ◌<◌, false, sym, ap, ◌∙◌, arith}
use Rattle.system.specs.Tests.{some_below, enables, class_enabled_lem}
use Rattle.system.proofs.Decided.{some_here, class_enabled_told}
use Rattle.system.proofs.questions.class_enabled.Goals as goal

pub returns-then-helps-clause-told : goal.returns-then-helps-clause-told
returns-then-helps-clause-told g c =
    let S = g.S.System.meaning c.args.system.now in
    let n = c.commands-k-end.ensures in
    let l : c.loop-k.k < S.steps.commands = omega arith in
    sym (some_here (enables S c.args.state c.args.class) c.loop-k.k S.steps.commands l (sym c.if-helps.ensures))

pub returns-clause-decides : goal.returns-clause-decides
returns-clause-decides g c =
    let S = g.S.System.meaning c.args.system.now in
    let n : c.loop-k.k ≡ S.steps.commands = omega (arith, c.commands-k-end.ensures) in
    let t : false ≡ class_enabled_lem S c.args.state c.args.class =
    sym c.loop-k.invariant ∙ ap (some_below (enables S c.args.state c.args.class)) n in
    class_enabled_told S (g.met.S.System.lawful c.args.system.now) c.args.state c.args.class _ t
