use Rattle.std.proofs.Common.{◌||◌, ap, ◌∙◌}
use Rattle.system.specs.Masks.{bit}
use Rattle.system.proofs.Masks.{bit_or_lem}
use Rattle.class_set.proofs.ClassSet.with.Goals as goal

pub returns : goal.returns
returns c j = bit_or_lem c.args.self.bits c.mask_of.result j ∙ ap (λ b. bit c.args.self.bits j || b) (c.mask_of.ensures.told j)
