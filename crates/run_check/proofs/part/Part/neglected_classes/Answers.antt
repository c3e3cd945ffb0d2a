use Rattle.std.proofs.Common.{◌≡◌, ◌&&◌, true, ap, ◌∙◌}
use Rattle.std.proofs.lemmas.Bool.{lt-ltb}
use Rattle.std.specs.List.{list_all}
use Rattle.system.specs.Masks.{bit}
use Rattle.run_rules.specs.Judging.{visits, owed}
use Rattle.run_rules.proofs.Walks.{neglected_visits}
use Rattle.run_check.proofs.part.Part.neglected_classes.Goals as goal

pub loop-state-init : goal.loop-state-init
loop-state-init g c = λ j h.
    let m = g.S.System.meaning c.args.self.now.system.now in
    let all : bit c.all-owed.result.bits j ≡ true = c.all-owed.ensures j ∙ lt-ltb j 16 h in
    let v = c.into_iter-state-iterator.result in
    let S = g.S.System.meaning v.system.now in
    let same : visits S.steps v.state v.steps.now ≡ visits m.steps c.args.self.now.from c.args.self.now.steps.now =
    rw c.into_iter-state-iterator.ensures.into_iter_gives c.visits-state-items.ensures in
    ap (λ b. b && list_all (λ e. owed m j e.0 e.1) (visits S.steps v.state v.steps.now)) all ∙ ap (list_all (λ e. owed m j e.0 e.1)) same
    ∙ neglected_visits m j c.args.self.now.from c.args.self.now.steps.now
