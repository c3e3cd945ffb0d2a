-- Readers of a stream of tokens, and how they are put together. Assumes nothing.
use Rattle.std.specs.Prelude.{ℕ, zero, suc, Bool, true, false}
use Rattle.lock_text.specs.Spelling.{Lexeme}
use Rattle.token_stream.specs.Streams.{Stream, token, fault, end}
use Rattle.expression_grammar.specs.Kinds.{behind}

-- Where the reading stands: the stream left, and the items of the whole text so far.
pub record Position : Type 0 where
  pub rest : Stream
  pub items : ℕ

-- A refusal by its number, with the stream from the refused token on, or what was read with the position after it.
pub data Result (A : Type 0) : Type 0 where
  refused : ℕ → Stream → Result A
  read : A → Position → Result A

abbrev pub Reader : Type 0 → Type 0
Reader A = Position → Result A

abbrev pub then : {A B : Type 0} → Result A → (A → Reader B) → Result B
then (refused n x) k = refused n x
then (read a s) k = k a s

-- Nothing more is read.
abbrev pub done : {A : Type 0} → A → Reader A
done a s = read a s

-- One reader, then another that goes by what the first has read.
unfoldable pub next : {A B : Type 0} → Reader A → (A → Reader B) → Reader B
next f k s = then (f s) k

-- A token is taken as what it means, or refused by a number.
pub data Verdict (A : Type 0) : Type 0 where
  takes : A → Verdict A
  refuses : ℕ → Verdict A

abbrev pub taken_if : {A : Type 0} → Bool → ℕ → A → Verdict A
taken_if true n a = takes a
taken_if false n a = refuses n

-- What is judged of the token in front; a fault of spelling is 2, a missing token 3.
abbrev pub judged : {A : Type 0} → (Lexeme → Verdict A) → Stream → Verdict A
judged test (token l i x) = test l
judged test (fault i) = refuses 2
judged test (end i) = refuses 3

abbrev pub by_verdict : {A : Type 0} → Verdict A → Reader A
by_verdict (takes a) s = read a (record { rest = behind s.rest; items = s.items })
by_verdict (refuses n) s = refused n s.rest

-- One token.
unfoldable pub one : {A : Type 0} → (Lexeme → Verdict A) → Reader A
one test s = by_verdict (judged test s.rest) s

-- So many parts one after another.
unfoldable pub times : {A : Type 0} → ℕ → (A → Reader A) → A → Reader A
times zero part a = done a
times (suc n) part a = next (part a) (times n part)

-- Nothing but the end of the text is wanted.
abbrev pub ended : {A : Type 0} → A → Stream → ℕ → Result A
ended a (token l i x) n = refused 3 (token l i x)
ended a (fault i) n = refused 2 (fault i)
ended a (end i) n = read a (record { rest = end i; items = n })

unfoldable pub at_end : {A : Type 0} → A → Reader A
at_end a s = ended a s.rest s.items
