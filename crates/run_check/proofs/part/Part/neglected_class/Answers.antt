use Rattle.std.proofs.Common.{ℕ, Bool, ap, ◌∙◌, arith}
use Rattle.system.specs.Masks.{bit}
use Rattle.run_rules.specs.Judging.{neglected, least}
use Rattle.run_check.proofs.Lowest.{lowest_same}
use Rattle.run_check.proofs.part.Part.neglected_class.Goals as goal

pub returns : goal.returns
returns g c =
    let m = g.S.System.meaning c.args.self.now.system.now in
    let few = (g.met.S.System.lawful c.args.self.now.system.now).few_classes in
    let is = c.classes.ensures in
    let f : ℕ → Bool = λ j. neglected m j c.args.self.now.from c.args.self.now.steps.now in
    lowest_same (bit c.neglected_classes.result.bits) f c.classes.result (λ j h. c.neglected_classes.ensures j (omega arith)) c.lowest_below.result c.lowest_below.ensures
    ∙ ap (least f 0) is
