-- What the reader's record stands for, and what each step makes of it. Assumes nothing.
use Rattle.std.specs.Prelude.{◌≡◌, ℕ, ◌+◌, ◌<◌, ◌≤◌, List, [], ◌∷◌, ◌++◌, length, take, Some, None, Ok, Err, Option, Result, slice_index_or}
use Rattle.lock_text.specs.Refusals.{refusal_number, refusal_index}
use Rattle.lock_text.specs.declared.refusal.TextRefusal.{TextRefusal}
use Rattle.lock_text.specs.declared.refusal.TextRefusal.TheVariants.{PastLimit}
use Rattle.token_stream.specs.Streams.{Stream}
use Rattle.expression.specs.Tree.{Tree, number, variable, items, max_items}
use Rattle.expression.specs.declared.Item.{Item}
use Rattle.expression.specs.declared.Item.TheVariants as Items
use Rattle.expression_grammar.specs.Kinds.{Scope, seen, place, size}
use Rattle.expression_grammar.specs.Reading.{State, Outcome, refused, read, joining, unwanted, operand, closed}
use Rattle.expression_grammar.specs.declared.kind.Kind.TheVariants.{Operator as Joins, Close}
use Rattle.expression_reader.specs.Ahead.{ahead, Looked, TokenAhead}
use Rattle.lock_text.specs.declared.token.Placed.{Placed}
use Rattle.expression.specs.declared.Operator.{Operator}
use Rattle.expression_grammar.specs.declared.kind.Kind.{Kind}
use Rattle.expression_reader.specs.Bindings.{rank_of}
use Rattle.expression_reader.specs.declared.binding.Binding.{Binding}
use Rattle.expression_reader.specs.declared.reader.Reader.{Reader}

-- The items written so far.
abbrev pub held : Reader → List Item
held r = take r.written r.items

-- Where the reading stands in the text t.
abbrev pub state : List ℕ → Reader → State
state t r = record { rest = ahead t r.at; operands = r.operands; items = r.counted }

-- The reading came from r to r': its outcome is a tree there, whose items are written behind the others, and no
-- place past them was touched.
pub record Took (t : List ℕ) (r : Reader) (o : Outcome) (r' : Reader) : Type 0 where
  pub tree : Tree
  pub is : o ≡ read tree (state t r')
  pub wrote : held r' ≡ held r ++ items tree
  pub beyond : (i : ℕ) (d : Item) → r'.written ≤ i → slice_index_or r'.items i d ≡ slice_index_or r.items i d
  pub within : r'.at ≤ length t
  pub fewer : size (ahead t r'.at) < size (ahead t r.at)
  pub even : r'.written + r.counted ≡ r.written + r'.counted
  pub longer : r.written ≤ r'.written

-- The outcome is this refusal, by its number and its place.
pub record Refused (o : Outcome) (f : TextRefusal) : Type 0 where
  pub rest : Stream
  pub is : o ≡ refused (refusal_number f) rest
  pub index : refusal_index f ≡ place rest

-- The outcome, as the code answers it.
abbrev pub Reads : {U : Type 0} → List ℕ → Reader → Outcome → Result U TextRefusal → Reader → Type 0
Reads t r o (Ok u) r' = Took t r o r'
Reads t r o (Err f) r' = Refused o f

-- An operator, as what its token is to an expression.
abbrev pub joins : Placed Operator → Placed Kind
joins g = record { token = Joins g.token; start = g.start; end = g.end }

-- An operator that binds so tightly stands ahead, or none does.
abbrev pub JoinsAt : Scope → List ℕ → ℕ → Binding → Option (Placed Operator) → Type 0
JoinsAt scope t a b (Some g) = Looked scope t a (joins g) × (joining (rank_of b) (Joins g.token) ≡ Some g.token)
JoinsAt scope t a b None = joining (rank_of b) (seen scope (ahead t a)) ≡ None

-- The refusal of a token that is not wanted.
pub record UnwantedAt (v : Placed Kind) (f : TextRefusal) : Type 0 where
  pub number : refusal_number f ≡ unwanted v.token
  pub index : refusal_index f ≡ v.start

-- One token further, which ends at e.
pub record Passed (r : Reader) (e : ℕ) (r' : Reader) : Type 0 where
  pub at : r'.at ≡ e
  pub counted : r'.counted ≡ r.counted
  pub operands : r'.operands ≡ r.operands
  pub written : r'.written ≡ r.written
  pub items : r'.items ≡ r.items

-- One token further, which ends at e, with one item more.
pub record Counted (r : Reader) (e : ℕ) (r' : Reader) : Type 0 where
  pub room : r.counted < max_items
  pub at : r'.at ≡ e
  pub counted : r'.counted ≡ r.counted + 1
  pub operands : r'.operands ≡ r.operands
  pub written : r'.written ≡ r.written
  pub items : r'.items ≡ r.items

-- The same for the token from s up to e, if the text may have one item more.
abbrev pub Counts : {U : Type 0} → Reader → ℕ → ℕ → Result U TextRefusal → Reader → Type 0
Counts r s e (Ok u) r' = Counted r e r'
Counts r s e (Err f) r' = (f ≡ PastLimit s) × (max_items ≤ r.counted)

-- One item is written behind the others.
pub record Pushed (r : Reader) (x : Item) (r' : Reader) : Type 0 where
  pub wrote : held r' ≡ held r ++ (x ∷ [])
  pub beyond : (i : ℕ) (d : Item) → r'.written ≤ i → slice_index_or r'.items i d ≡ slice_index_or r.items i d
  pub written : r'.written ≡ r.written + 1
  pub at : r'.at ≡ r.at
  pub operands : r'.operands ≡ r.operands
  pub counted : r'.counted ≡ r.counted

-- The tree of a lone item, if it is a number or a variable.
abbrev pub lone : Item → Option Tree
lone (Items.Number n) = Some (number n)
lone (Items.Variable v) = Some (variable v)
lone Items.Not = None
lone (Items.Operator o) = None

-- What reading an operand comes to, in each text where its token stands ahead.
abbrev pub OperandRead : {U : Type 0} → Reader → Placed Kind → Item → Result U TextRefusal → Reader → Type 0
OperandRead r v x o r' = (scope : Scope) (t : List ℕ) (e : Tree) → lone x ≡ Some e → Looked scope t r.at v → TokenAhead t r.at → Reads t r (operand (state t r) e) o r'

-- The ) is there and was passed, or the reading of it, after any tree, is refused.
abbrev pub Closes : {U : Type 0} → Scope → List ℕ → Reader → Result U TextRefusal → Reader → Type 0
Closes scope t r (Ok u) r' = (v : Placed Kind) × Looked scope t r.at v × (v.token ≡ Close) × Passed r v.end r'
Closes scope t r (Err f) r' = (e : Tree) → Refused (closed scope e (state t r)) f
