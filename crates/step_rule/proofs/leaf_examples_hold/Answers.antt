use Rattle.std.proofs.Common.{refl}
use Rattle.step_rule.proofs.leaf_examples_hold.Goals as goal

pub returns : goal.returns
returns c values = (refl, refl)
