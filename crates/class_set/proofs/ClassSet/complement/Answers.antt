use Rattle.std.proofs.Common.{arith}
use Rattle.std.proofs.lemmas.Nat.{xor_lt}
use Rattle.class_set.proofs.Bits.{bit_other}
use Rattle.class_set.proofs.ClassSet.complement.Goals as goal

pub returns-clause-classes : goal.returns-clause-classes
returns-clause-classes c j = bit_other c.args.self.bits j (xor_lt 16 c.args.self.bits 65535 c.args.self.sixteen (omega arith))
