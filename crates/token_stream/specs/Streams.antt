-- A lock text as its tokens one after another, up to its end or its first fault of spelling. Assumes nothing.
use Rattle.std.specs.Prelude.{◌≡◌, ℕ, List, length}
use Rattle.lock_text.specs.Spelling.{Lexeme}
use Rattle.lock_text.specs.Tokens.{NextToken, NoToken, Misspelt}

-- The tokens ahead: each with the index of its first byte; at last the length of the text, or the index of the
-- first byte where no token stands.
pub data Stream : Type 0 where
  token : Lexeme → ℕ → Stream → Stream
  fault : ℕ → Stream
  end : ℕ → Stream

-- From a on, the text t is this stream.
abbrev pub Streams : List ℕ → ℕ → Stream → Type 0
Streams t a (token l s rest) = (e : ℕ) × NextToken t a l s e × Streams t e rest
Streams t a (fault s) = Misspelt t a s
Streams t a (end n) = NoToken t a × (n ≡ length t)

-- Each text is one stream.
abbrev pub StreamsAreOne : Type 0
StreamsAreOne = (t : List ℕ) (a : ℕ) (x y : Stream) → Streams t a x → Streams t a y → x ≡ y
