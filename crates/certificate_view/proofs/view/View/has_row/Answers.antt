use Rattle.certificate_view.proofs.Rows.{place_decides}
use Rattle.certificate_view.proofs.view.View.has_row.Goals as goal

pub returns : goal.returns
returns c = place_decides c.args.self.now c.args.process c.args.state c.row_place.result c.is_some.result c.is_some.ensures c.row_place.ensures
