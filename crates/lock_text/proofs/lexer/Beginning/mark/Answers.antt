use Rattle.std.proofs.Common.{refl}
use Rattle.lock_text.proofs.lexer.Beginning.mark.Goals as goal
use Rattle.lock_text.proofs.Marks.{mark_token}

pub returns : goal.returns
returns c = (
  refl,
  mark_token c.args.self.text.now c.args.self.start c.equals_at.result c.width.result c.args.self.inside c.requires.no_letter c.requires.no_digit c.in_ok-mark.mark
      c.equals_at.ensures c.in_ok-mark.ensures.same c.in_ok-mark.ensures.begins c.width.ensures,
)
