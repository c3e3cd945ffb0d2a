-- What stands ahead in a text. Assumes nothing.
use Rattle.std.specs.Prelude.{◌≡◌, ℕ, ◌+◌, ◌≤◌, List, length, drop}
use Rattle.lock_text.specs.Spelling.{Lexeme}
use Rattle.token_stream.specs.Streams.{Stream, token}
use Rattle.token_stream.specs.Computed.{stream_from}
use Rattle.names.specs.Listed.{listed, index_of}
use Rattle.names.specs.declared.list.NameList.{NameList}
use Rattle.expression_grammar.specs.Kinds.{Scope, seen, place}
use Rattle.expression_grammar.specs.declared.kind.Kind.{Kind}
use Rattle.lock_text.specs.declared.token.Placed.{Placed}

-- The stream of tokens of the text t from a on.
unfoldable pub ahead : List ℕ → ℕ → Stream
ahead t a = stream_from (length t + 1) a (drop a t)

-- The variables are the names of the list, by their numbers.
abbrev pub scope_of : NameList → Scope
scope_of names = index_of (listed names)

-- What was seen from a on: what it is to an expression, where it stands, and, of a token, where it ends.
pub record Looked (scope : Scope) (t : List ℕ) (a : ℕ) (v : Placed Kind) : Type 0 where
  pub kind : v.token ≡ seen scope (ahead t a)
  pub start : v.start ≡ place (ahead t a)
  pub past : (l : Lexeme) (s : ℕ) (x : Stream) → ahead t a ≡ token l s x → (v.end ≤ length t) × (x ≡ ahead t v.end)

-- A token stands ahead.
abbrev pub TokenAhead : List ℕ → ℕ → Type 0
TokenAhead t a = (l : Lexeme) × (s : ℕ) × (x : Stream) × (ahead t a ≡ token l s x)
