use Rattle.std.proofs.Common.{refl, below_more}
use Rattle.rank_rule.specs.Rule.{RowsExactAt}
use Rattle.certificate_theory.proofs.Spots.{denied, process_fails, processes_hold}
use Rattle.certificate_view.specs.Held.{certificate_of}
use Rattle.certificate_check.proofs.judging.Judging.rows_failure.Goals as goal

pub returns-then-not-row_is_exact : goal.returns-then-not-row_is_exact
returns-then-not-row_is_exact g c =
    process_fails (λ q. RowsExactAt (g.S.System.meaning c.args.self.now.system.now) (certificate_of c.args.self.now.view) q c.args.state) c.args.limit
    c.loop-process.process c.loop-process-test.true (denied c.if-not-row_is_exact.ensures) c.loop-process.invariant

pub loop-process-preserved : goal.loop-process-preserved
loop-process-preserved g c =
    below_more (λ q. RowsExactAt (g.S.System.meaning c.args.self.now.system.now) (certificate_of c.args.self.now.view) q c.args.state) c.loop-process.process
    c.loop-process.invariant (c.if-not-row_is_exact.ensures.0 refl)

pub returns : goal.returns
returns g c =
    processes_hold (λ q. RowsExactAt (g.S.System.meaning c.args.self.now.system.now) (certificate_of c.args.self.now.view) q c.args.state) c.args.limit
    c.loop-process.process c.loop-process-test.false c.loop-process.invariant
