-- What the program answers to a text, and the line that says it. Assumes nothing.
use Rattle.std.specs.Prelude.{ℕ, List, ◌++◌, Ok, Err, Result, codes, decimal}
use Rattle.lock_text.specs.Refusals.{refusal_number, refusal_index}
use Rattle.lock_text.specs.Lexing.{CountsTokens}
use Rattle.lock_text.specs.declared.refusal.TextRefusal.{TextRefusal}
use Rattle.answer.specs.declared.Answer.{Answer}

-- The right answer to a text: how many tokens it has, or why it is refused.
abbrev pub Answers : List ℕ → Answer → Type 0
Answers t a = CountsTokens t a.tokens

abbrev pub line_of : Result ℕ TextRefusal → List ℕ
line_of (Ok n) = codes "tokens " ++ decimal n
line_of (Err e) = codes "refused " ++ (decimal (refusal_number e) ++ (codes " " ++ decimal (refusal_index e)))

-- The bytes of the line, without its end.
abbrev pub line : Answer → List ℕ
line a = line_of a.tokens
