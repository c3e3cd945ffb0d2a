-- What the grammar and the reading have to do with each other. Assumes nothing.
use Rattle.std.specs.Prelude.{◌≡◌, ℕ, ◌+◌, ◌≤◌, List, [], ◌∷◌, length, ◌≢◌}
use Rattle.lock_text.specs.Spelling.{Lexeme}
use Rattle.token_stream.specs.Streams.{Stream, token, fault, end}
use Rattle.expression.specs.Tree.{Tree, items, operands, max_operands, max_items}
use Rattle.expression.specs.declared.Operator.{Operator}
use Rattle.expression_grammar.specs.Kinds.{Scope, sign}
use Rattle.expression_grammar.specs.Reading.{State, refused, read, expression, levels}
use Rattle.expression_grammar.specs.Grammar.{Expression, rules}

-- The stream x begins with the tokens ls, and y is what follows them.
abbrev pub Begins : Stream → List Lexeme → Stream → Type 0
Begins x [] y = x ≡ y
Begins x (l ∷ ls) y = (s : ℕ) × (z : Stream) × (x ≡ token l s z) × Begins z ls y

-- What stands in front: a token, a fault of spelling, or the end of the text.
pub data Front : Type 0 where
  a_token : Lexeme → Front
  a_fault : Front
  the_end : Front

abbrev pub front : Stream → Front
front (token l s x) = a_token l
front (fault s) = a_fault
front (end n) = the_end

-- No operator stands in front.
abbrev pub NoOperator : Stream → Type 0
NoOperator x = (o : Operator) → front x ≢ a_token (sign o)

-- The tree e stays within the limits, after the operands and the items before it.
abbrev pub Fits : State → Tree → Type 0
Fits s e = (s.operands + operands e ≤ max_operands) × (s.items + length (items e) ≤ max_items)

-- The state after the tree e, with the stream x left.
abbrev pub after : State → Stream → Tree → State
after s x e = record { rest = x; operands = s.operands + operands e; items = s.items + length (items e) }

-- What is read is an expression by the grammar, within the limits.
abbrev pub SoundReading : Type 0
SoundReading =
    (scope : Scope) (n : ℕ) (s : State) (e : Tree) (s' : State) → expression scope (levels scope n) s ≡ read e s' →
    (ls : List Lexeme) × Begins s.rest ls s'.rest × Expression scope (rules scope n) e ls × (s' ≡ after s s'.rest e) × Fits s e

-- What is an expression by the grammar, within the limits, and has no operator behind it, is read as that tree.
abbrev pub CompleteReading : Type 0
CompleteReading =
    (scope : Scope) (n : ℕ) (s : State) (e : Tree) (ls : List Lexeme) (x : Stream) → Expression scope (rules scope n) e ls →
    Begins s.rest ls x → NoOperator x → Fits s e → expression scope (levels scope n) s ≡ read e (after s x e)

-- Within the limits the same tokens are one tree.
abbrev pub OneTree : Type 0
OneTree =
    (scope : Scope) (n : ℕ) (ls : List Lexeme) (e e' : Tree) → Expression scope (rules scope n) e ls → Expression scope (rules scope n) e' ls →
    operands e ≤ max_operands → operands e' ≤ max_operands → length (items e) ≤ max_items → length (items e') ≤ max_items → e ≡ e'

-- No stream with the same tokens as that of s, up to and through the one in front of r, begins with an expression
-- within the limits.
abbrev pub NoneThrough : Scope → ℕ → State → Stream → Type 0
NoneThrough scope n s r =
    (before : List Lexeme) × Begins s.rest before r × ((x q : Stream) (e : Tree) (ls : List Lexeme) (y : Stream) → Begins x before q → front q ≡ front r →
    Expression scope (rules scope n) e ls → Begins x ls y → NoOperator y → Fits s e → ⊥)

-- Where the reading refuses at a token, no stream with the same tokens up to and through that one begins with an
-- expression within the limits.
abbrev pub FirstFault : Type 0
FirstFault = (scope : Scope) (n : ℕ) (s : State) (m : ℕ) (r : Stream) → expression scope (levels scope n) s ≡ refused m r → NoneThrough scope n s r
