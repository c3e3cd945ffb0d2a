use Rattle.class_set.proofs.Bits.{bit_and_lem}
use Rattle.class_set.proofs.ClassSet.intersection.Goals as goal

pub returns : goal.returns
returns c = bit_and_lem c.args.self.bits c.args.other.bits
