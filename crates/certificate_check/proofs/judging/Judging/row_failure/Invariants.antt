use Rattle.std.proofs.Common.{ℕ, ◌<◌, get_or, None}
use Rattle.rank.specs.Rows.{with_numbers}
use Rattle.certificate_view.specs.Held.{certificate_of}
use Rattle.certificate_check.specs.Commands.{FallsBy}
use Rattle.certificate_check.proofs.judging.Judging.row_failure.Given as goal

abbrev pub invariant-loop-command : goal.invariant-loop-command
invariant-loop-command g l =
    (k : ℕ) → k < l.command →
    FallsBy g.R.Rank.kind (g.S.System.meaning l.self.system.now) (certificate_of l.self.view) l.process (with_numbers g.R.Rank.value l.row) k (get_or l.successors k None)
