use Rattle.rank.specs.Rows.{with_numbers}
use Rattle.certificate_view.specs.Held.{certificate_of}
use Rattle.certificate_check.proofs.Commands.{row_command}
use Rattle.certificate_check.proofs.judging.Judging.process_failure.Goals as goal

pub returns : goal.returns
returns g c =
    row_command g.R.Rank.kind (g.S.System.meaning c.args.self.now.system.now) (certificate_of c.args.self.now.view) c.args.process c.args.state
    (with_numbers g.R.Rank.value c.in_ok-row.row) c.args.successors.now c.row_failure.result c.in_ok-row.ensures c.row_failure.ensures
