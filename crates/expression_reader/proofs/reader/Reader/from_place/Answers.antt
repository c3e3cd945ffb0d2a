use Rattle.std.proofs.Common.{refl, arith}
use Rattle.expression_reader.proofs.Entries.{past_refused, came_to}
use Rattle.expression_reader.proofs.reader.Reader.from_place.Goals as goal

pub returns-then-self-text : goal.returns-then-self-text
returns-then-self-text c = record {
  too_long = λ h. let l = c.if-text-gt-MAX_TEXT.false in absurd (omega arith);
  reads = λ h x s. past_refused _ _ c.args.self.now x c.if-self-text.true s;
}

pub returns : goal.returns
returns c = record {
  too_long = λ h. let l = c.if-text-gt-MAX_TEXT.false in absurd (omega arith);
  reads = λ h x s. came_to _ _ c.args.self.now _ x c.if-self-text.false s refl refl refl refl refl c.parts.result c.parts.new.self c.parts.ensures;
}
