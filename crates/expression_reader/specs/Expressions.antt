-- What reading an expression of a text comes to. Assumes nothing.
use Rattle.std.specs.Prelude.{◌≡◌, ℕ, ◌+◌, ◌<◌, ◌≤◌, List, ◌++◌, length, replicate, Ok, Err, Result, slice_index_or}
use Rattle.lock_text.specs.Spelling.{Lexeme}
use Rattle.lock_text.specs.Tokens.{max_text}
use Rattle.lock_text.specs.declared.refusal.TextRefusal.{TextRefusal}
use Rattle.lock_text.specs.declared.refusal.TextRefusal.TheVariants.{TooLong}
use Rattle.token_stream.specs.Streams.{Stream, Streams}
use Rattle.expression.specs.Tree.{Tree, items, max_levels, max_items}
use Rattle.expression.specs.declared.Item.{Item}
use Rattle.expression.specs.declared.Item.TheVariants.{Number}
use Rattle.expression_grammar.specs.Kinds.{Scope}
use Rattle.expression_grammar.specs.Reading.{State, read, expression, levels}
use Rattle.expression_grammar.specs.Grammar.{Expression, rules}
use Rattle.expression_grammar.specs.Laws.{Begins, NoneThrough}
use Rattle.expression_reader.specs.State.{held, Refused}
use Rattle.expression_reader.specs.declared.reader.Reader.{Reader}

-- An expression begins where the stream x stands ahead of r: it has no operand yet.
abbrev pub begun : Stream → Reader → State
begun x r = record { rest = x; operands = 0; items = r.counted }

-- An expression was read: its tokens are this tree by the grammar, its items are written behind the others, no place
-- past them was touched, and the rest of the stream stands ahead.
pub record TookExpression (scope : Scope) (t : List ℕ) (x : Stream) (r r' : Reader) : Type 0 where
  pub tree : Tree
  pub rest : Stream
  pub is : expression scope (levels scope max_levels) (begun x r) ≡ read tree (record { rest = rest; operands = r'.operands; items = r'.counted })
  pub tokens : List Lexeme
  pub begins : Begins x tokens rest
  pub derived : Expression scope (rules scope max_levels) tree tokens
  pub ahead : Streams t r'.at rest
  pub within : r'.at ≤ length t
  pub wrote : held r' ≡ held r ++ items tree
  pub beyond : (i : ℕ) (d : Item) → r'.written ≤ i → slice_index_or r'.items i d ≡ slice_index_or r.items i d
  pub counted : r'.counted ≡ r.counted + length (items tree)
  pub even : r'.written + r.counted ≡ r.written + r'.counted

-- The expression is refused by this number at this place, and no text with the same tokens up to and through the
-- refused one has an expression there.
pub record RefusedExpression (scope : Scope) (x : Stream) (r : Reader) (f : TextRefusal) : Type 0 where
  pub refusal : Refused (expression scope (levels scope max_levels) (begun x r)) f
  pub none : NoneThrough scope max_levels (begun x r) refusal.rest

abbrev pub CameTo : {U : Type 0} → Scope → List ℕ → Stream → Reader → Result U TextRefusal → Reader → Type 0
CameTo scope t x r (Ok u) r' = TookExpression scope t x r r'
CameTo scope t x r (Err f) r' = RefusedExpression scope x r f

-- What is answered on every input. A text that is too long is refused before anything is looked at.
pub record ReadsExpression {U : Type 0} (scope : Scope) (t : List ℕ) (r : Reader) (o : Result U TextRefusal) (r' : Reader) : Type 0 where
  pub too_long : max_text < length t → o ≡ Err TooLong
  pub reads : length t ≤ max_text → (x : Stream) → Streams t r.at x → CameTo scope t x r o r'

-- At the start of a text, with no items: each place for one holds the number 0.
pub record Blank (r : Reader) : Type 0 where
  pub at : r.at ≡ 0
  pub operands : r.operands ≡ 0
  pub counted : r.counted ≡ 0
  pub written : r.written ≡ 0
  pub items : r.items ≡ replicate max_items (Number 0)

-- After a refusal the reader is blank.
abbrev pub BlankIfRefused : {U : Type 0} → Result U TextRefusal → Reader → Type 0
BlankIfRefused (Ok u) r' = Unit {0}
BlankIfRefused (Err f) r' = Blank r'
