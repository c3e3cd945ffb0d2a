use Rattle.std.proofs.Common.{◌≡◌, true, ◌↔◌, Some, refl, rules}
use Rattle.system.specs.Transitions.{Waits}
use Rattle.rank.specs.Rows.{Falls, with_numbers}
use Rattle.rank_rule.specs.Rule.{FallsTo}
use Rattle.certificate_view.specs.Held.{certificate_of}
use Rattle.certificate_check.proofs.Rows.{row_and_some}
use Rattle.certificate_check.proofs.Commands.{falls_decides, no_row_falls}
use Rattle.certificate_check.proofs.judging.Judging.falls.Goals as goal

pub returns : goal.returns
returns g c =
    let K = g.R.Rank.kind in
    let S = g.S.System.meaning c.args.self.now.system.now in
    let C = certificate_of c.args.self.now.view in
    let row = with_numbers g.R.Rank.value c.args.row.now in
    let waits = c.if-not-waits.ensures.0 refl in
    row_and_some (with_numbers g.R.Rank.value) C c.args.process c.args.to c.row.result c.is_some_and.result
    (Waits S.steps c.args.process c.args.to → FallsTo K S C c.args.process row c.args.command c.args.to) c.row.ensures c.is_some_and.ensures
    (λ x only q. let told : c.is_some_and.result ≡ true ↔ Falls K row (with_numbers g.R.Rank.value x) (c.class_of-taken.result ≡ Some row.class) = search rules in falls_decides K S C c.args.process row c.args.command c.args.to (with_numbers g.R.Rank.value x) c.class_of-taken.result c.is_some_and.result only waits c.class_of-taken.ensures told)
    (λ none. no_row_falls K S C c.args.process row c.args.command c.args.to none waits)
