use Rattle.std.proofs.Common.{not, rules, sym, refl, ◌∙◌}
use Rattle.std.proofs.lemmas.Iterator.{YieldsList-from_map}
use Rattle.std.proofs.lemmas.Iterator.Consumers.{YieldsList-from_first, YieldsList-from_filter, min_from_yields_List}
use Rattle.std.proofs.lemmas.Iterator.Adapters.{option_map_id}
use Rattle.run_rules.specs.Judging.{visits, is_try}
use Rattle.run_rules.proofs.Walks.{idle_visits}
use Rattle.run_check.specs.declared.part.Visits.{Visits}
use Rattle.run_check.proofs.part.Part.idle_at.Goals as goal

pub returns : goal.returns
returns g c =
    let T = (g.S.System.meaning c.args.self.now.system.now).steps in
    let p = c.args.process in
    let from = c.args.self.now.from in
    let steps = c.args.self.now.steps.now in
    sym (option_map_id c.min.result)
    ∙ min_from_yields_List _ c.min.result c.min.ensures.ran
    (YieldsList-from_filter _ (λ s. not (is_try (T.region s p)))
    (YieldsList-from_map _ (λ e. e.0)
    (YieldsList-from_first (λ x. x) (λ (v : Visits g.row.S.Denot). visits (g.S.System.meaning v.system.now).steps v.state v.steps.now) (visits T from steps)
    (rw c.filter.ensures.source (rw c.map.ensures.source c.visits.ensures)))
    refl (λ x r q called. search rules))
    c.filter.ensures.closure (λ x r q called. search rules))
    ∙ idle_visits T p from steps
