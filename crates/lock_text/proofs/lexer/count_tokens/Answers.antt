use Rattle.std.proofs.Common.{◌≡◌, ◌<◌, ◌≤◌, [], ◌∷◌, ◌++◌, length, Ok, Option, subst, arith}
use Rattle.std.proofs.lemmas.List.{length_push}
use Rattle.lock_text.specs.Tokens.{NextToken, content}
use Rattle.lock_text.specs.Lexing.{Lexes}
use Rattle.lock_text.specs.declared.token.Placed.{Placed}
use Rattle.lock_text.specs.declared.token.Token.{Token}
use Rattle.lock_text.proofs.lexer.count_tokens.Goals as goal
use Rattle.lock_text.proofs.One.{tokens_push}

pub loop-token-preserved : goal.loop-token-preserved
loop-token-preserved c =
    let t = c.args.text.now in
    let p = c.in-Some.token in
    let Answered : Option (Placed Token) → Type 0 = λ o. Lexes t c.loop-token.at (Ok o) in
    let next : NextToken t c.loop-token.at (content p.token) p.start p.end = (subst Answered c.in-Some.is c.in_ok-token.ensures).1 in
    let before = c.loop-token.invariant.2 in
    let ls = before.0 in
    let l = content p.token in
    let count = length_push ls l in
    let so_far : length ls ≡ c.loop-token.count = before.2 in
    let few : c.loop-token.count ≤ c.loop-token.at = c.loop-token.invariant.1 in
    let start : c.loop-token.at ≤ p.start = next.after in
    let more : p.start < p.end = next.token.some_bytes in
    (next.token.within, omega arith, (ls ++ (l ∷ []), tokens_push t 0 c.loop-token.at p.start p.end ls l before.1 next, omega arith))
