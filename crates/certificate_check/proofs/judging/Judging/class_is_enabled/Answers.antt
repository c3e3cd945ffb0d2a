use Rattle.std.proofs.Common.{◌≡◌, ℕ, List, sym, ◌∙◌, subst, rules}
use Rattle.system.specs.Masks.{bit}
use Rattle.system.specs.Justice.{ClassEnabled}
use Rattle.rank.specs.declared.Row.{Row}
use Rattle.rank.specs.Rows.{with_numbers}
use Rattle.rank_rule.specs.Rule.{ClassesEnabledAt}
use Rattle.certificate_view.specs.Held.{certificate_of}
use Rattle.certificate_check.proofs.Rows.{row_or_none}
use Rattle.certificate_check.proofs.judging.Judging.class_is_enabled.Goals as goal

pub returns : goal.returns
returns g c =
    let S = g.S.System.meaning c.args.self.now.system.now in
    let C = certificate_of c.args.self.now.view in
    let d = c.requires in
    row_or_none (with_numbers g.R.Rank.value) C c.args.process c.args.state c.row.result c.is_none_or.result
    (ClassesEnabledAt S C c.args.process c.args.state) c.row.ensures c.is_none_or.ensures
    (λ x only q. let is : c.is_none_or.result ≡ bit c.args.enabled.bits x.class = search rules in (
      (λ yes row at. subst (λ (y : Row (List ℕ)). ClassEnabled S c.args.state y.class) (sym (only.1 row at)) ((d x.class).0 (sym is ∙ yes))),
      (λ h. is ∙ (d x.class).1 (h (with_numbers g.R.Rank.value x) only.0)),
    ))
    (λ none row at. absurd (none (row, at)))
