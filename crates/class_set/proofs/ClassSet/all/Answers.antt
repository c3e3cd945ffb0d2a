use Rattle.class_set.proofs.Bits.{bit_all}
use Rattle.class_set.proofs.ClassSet.all.Goals as goal

pub returns : goal.returns
returns c = bit_all
