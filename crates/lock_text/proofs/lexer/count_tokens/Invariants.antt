use Rattle.std.proofs.Common.{◌≡◌, ◌-◌, ◌≤◌, List, length}
use Rattle.lock_text.specs.Spelling.{Lexeme}
use Rattle.lock_text.specs.Tokens.{TokensTo}
use Rattle.lock_text.proofs.lexer.count_tokens.Given as goal

-- the tokens so far, each of at least one byte
abbrev pub invariant-loop-token : goal.invariant-loop-token
invariant-loop-token l =
    (l.at ≤ length l.text) × (l.count ≤ l.at) × ((ls : List Lexeme) × TokensTo l.text 0 ls l.at × (length ls ≡ l.count))

abbrev pub decreases-loop-token : goal.decreases-loop-token
decreases-loop-token l = length l.text - l.at
