use Rattle.std.proofs.Common.{sym, refl, subst, arith}
use Rattle.lock_text.specs.Tokens.{TokenAt, content}
use Rattle.lock_text.specs.declared.token.Token.{Token}
use Rattle.lock_text.proofs.lexer.Beginning.name.Goals as goal
use Rattle.lock_text.proofs.lexer.Beginning.name.Goals.{in-Some, in-None}
use Rattle.lock_text.proofs.Shapes.{name_ends, name_token, word_token, ends_none, long_name}

pub returns-then-end-start-gt-MAX_NAME : goal.returns-then-end-start-gt-MAX_NAME
returns-then-end-start-gt-MAX_NAME c =
    let k = name_ends c.args.self.text.now c.args.self.start c.run_end-end.result c.args.self.inside c.requires c.run_end-end.ensures in
    ends_none _ _ _ k (long_name _ _ _ k c.requires (omega arith))

pub returns : goal.returns
returns c =
    let k = name_ends c.args.self.text.now c.args.self.start c.run_end-end.result c.args.self.inside c.requires c.run_end-end.ensures in
    let Here : Token → Type 0 = λ x. TokenAt c.args.self.text.now c.args.self.start (content x) c.run_end-end.result in (
      refl,
      elim c.match-reserved.branch [
        | in-Some w ↦ subst Here (sym w.token-is) (word_token _ _ _ k w.in-Some.word w.in-Some.ensures)
        | in-None w ↦ subst Here (sym w.token-is) (name_token _ _ _ k c.requires (omega arith) (λ r. w.in-None.ensures r.0 r.1))
      ],
    )
