use Rattle.system.specs.Tests.{is_class}
use Rattle.class_set.proofs.Bits.{bit_out}
use Rattle.class_set.proofs.ClassSet.without.Goals as goal

pub returns : goal.returns
returns c j = bit_out c.args.self.bits c.mask_of.result j (is_class c.args.class) c.args.self.sixteen c.mask_of.ensures.sixteen c.mask_of.ensures.told
