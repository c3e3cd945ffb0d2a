use Rattle.std.proofs.Common.{sym, ◌∙◌}
use Rattle.std.proofs.lemmas.Bool.{le-ltb}
use Rattle.system.proofs.Masks.{bit_beyond}
use Rattle.class_set.proofs.ClassSet.contains.Goals as goal

pub returns-else-class-lt16 : goal.returns-else-class-lt16
returns-else-class-lt16 c =
    le-ltb c.args.class 16 c.if-class-lt16.false ∙ sym (bit_beyond 16 c.args.self.bits c.args.class c.args.self.sixteen c.if-class-lt16.false)
