use Rattle.system.proofs.Masks.{bit_or_lem}
use Rattle.class_set.proofs.ClassSet.union.Goals as goal

pub returns-clause-classes : goal.returns-clause-classes
returns-clause-classes c = bit_or_lem c.args.self.bits c.args.other.bits
