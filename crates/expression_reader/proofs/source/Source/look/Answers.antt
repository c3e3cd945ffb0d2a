use Rattle.std.proofs.Common.{Ok, refl, subst, arith}
use Rattle.lock_text.specs.Lexing.{Lexes}
use Rattle.expression_reader.proofs.Ahead.{looked_token, looked_none, looked_fault, lexer_fault}
use Rattle.expression_reader.proofs.source.Source.look.Goals as goal

pub returns-in-Ok-Some : goal.returns-in-Ok-Some
returns-in-Ok-Some c =
    looked_token _ _ _ _ _ (subst (λ o. Lexes c.args.self.text.now c.args.at (Ok o)) c.in-Ok-Some.field-0-is c.in-Ok-Some.ensures).1 c.kind.ensures

pub returns-in-Ok-None : goal.returns-in-Ok-None
returns-in-Ok-None c =
    looked_none _ _ _ _ (subst (λ o. Lexes c.args.self.text.now c.args.at (Ok o)) c.in-Ok-None.field-0-is c.in-Ok-None.ensures).1 refl
    (λ h. omega (arith, c.max.ensures)) (λ h. omega (arith, c.max.ensures))

pub returns-in-Err : goal.returns-in-Err
returns-in-Err c = looked_fault _ _ _ _ _ (lexer_fault _ _ c.in-Err.refusal c.args.self.short c.in-Err.ensures) refl c.index.ensures
