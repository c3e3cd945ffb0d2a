use Rattle.std.proofs.Common.{refl, below_more}
use Rattle.rank_rule.specs.Rule.{ClassesEnabledAt}
use Rattle.certificate_theory.proofs.Spots.{denied, process_fails, processes_hold}
use Rattle.certificate_view.specs.Held.{certificate_of}
use Rattle.certificate_check.proofs.judging.Judging.class_failure.Goals as goal

pub returns-then-not-class_is_enabled : goal.returns-then-not-class_is_enabled
returns-then-not-class_is_enabled g c =
    process_fails (λ q. ClassesEnabledAt (g.S.System.meaning c.args.self.now.system.now) (certificate_of c.args.self.now.view) q c.args.state) c.args.limit
    c.loop-process.process c.loop-process-test.true (denied c.if-not-class_is_enabled.ensures) c.loop-process.invariant

pub loop-process-preserved : goal.loop-process-preserved
loop-process-preserved g c =
    below_more (λ q. ClassesEnabledAt (g.S.System.meaning c.args.self.now.system.now) (certificate_of c.args.self.now.view) q c.args.state) c.loop-process.process
    c.loop-process.invariant (c.if-not-class_is_enabled.ensures.0 refl)

pub returns : goal.returns
returns g c =
    processes_hold (λ q. ClassesEnabledAt (g.S.System.meaning c.args.self.now.system.now) (certificate_of c.args.self.now.view) q c.args.state) c.args.limit
    c.loop-process.process c.loop-process-test.false c.loop-process.invariant
