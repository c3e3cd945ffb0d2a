use Rattle.std.proofs.Common.{◌*◌, ◌%◌, ◌^◌, ◌||◌, ap, ◌∙◌}
use Rattle.system.specs.Masks.{bit}
use Rattle.system.proofs.Masks.{bit_or_lem}
use Rattle.class_set.proofs.Bits.{bit_shl}
use Rattle.class_set.proofs.ClassSet.put.Goals as goal

pub returns : goal.returns
returns c j =
    bit_or_lem c.args.self.bits ((1 * 2 ^ c.args.class) % 65536) j ∙ ap (λ b. bit c.args.self.bits j || b) (bit_shl c.args.class j c.requires)
