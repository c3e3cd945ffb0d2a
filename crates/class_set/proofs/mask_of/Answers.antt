use Rattle.std.proofs.Common.{◌*◌, ◌^◌, ◌&&◌, ltb, sym, ap, ◌∙◌, mod-lt, arith}
use Rattle.system.specs.Tests.{is_class}
use Rattle.class_set.proofs.Bits.{class_here}
use Rattle.class_set.proofs.mask_of.Goals as goal

pub returns-in-Some : goal.returns-in-Some
returns-in-Some c =
    record {
      told = λ j. class_here c.in-Some.class j c.if-class-lt16.true ∙ ap (λ o. is_class o j && ltb j 16) (sym c.in-Some.is);
      sixteen = mod-lt (1 * 2 ^ c.in-Some.class) (omega arith);
    }
