use Rattle.certificate_view.proofs.Rows.{read_row}
use Rattle.certificate_view.proofs.view.View.row.Goals as goal

pub returns : goal.returns
returns g c = λ e.
    read_row c.args.self.now c.args.process c.args.state c.in_ok-at.at g.R.Rank.kind.numbers (g.R.Rank.value c.in_ok-rank.rank)
    e c.in_ok-rank.ensures.1 c.in_ok-at.ensures
