use Rattle.std.proofs.Common.{ℕ, ◌<◌}
use Rattle.rank_rule.specs.Rule.{RowsExactAt}
use Rattle.certificate_view.specs.Held.{certificate_of}
use Rattle.certificate_check.proofs.judging.Judging.rows_failure.Given as goal

abbrev pub invariant-loop-process : goal.invariant-loop-process
invariant-loop-process g l =
    (q : ℕ) → q < l.process → RowsExactAt (g.S.System.meaning l.self.system.now) (certificate_of l.self.view) q l.state
