-- The reading of an expression from a stream of tokens, as a function. Assumes nothing.
use Rattle.std.specs.Prelude.{ℕ, zero, suc, ◌+◌, Bool, true, false, cond, Some, None, Option, ◌==◌, nat_lt}
use Rattle.token_stream.specs.Streams.{Stream}
use Rattle.expression.specs.Tree.{Tree, number, variable, denial, joined, max_operands, max_items}
use Rattle.expression.specs.declared.Operator.{Operator}
use Rattle.expression_grammar.specs.Kinds.{Scope, rank, seen, behind, size}
use Rattle.expression_grammar.specs.declared.kind.Kind.{Kind}
use Rattle.expression_grammar.specs.declared.kind.Kind.TheVariants.{Number, Large, Variable, Unknown, Operator as Joins, Not, Open, Close, Other, Misspelt}

-- Where the reading stands: the stream left, the numbers and variables of this expression so far, and the items of
-- the whole text so far.
pub record State : Type 0 where
  pub rest : Stream
  pub operands : ℕ
  pub items : ℕ

-- A refusal by its number, with the stream from the refused token on, or a tree with the state after it.
pub data Outcome : Type 0 where
  refused : ℕ → Stream → Outcome
  read : Tree → State → Outcome

abbrev pub then : Outcome → (Tree → State → Outcome) → Outcome
then (refused n x) k = refused n x
then (read e s) k = k e s

-- One token further.
abbrev pub past : State → State
past s = record { rest = behind s.rest; operands = s.operands; items = s.items }

-- One token further, with one item more.
abbrev pub counted : State → State
counted s = record { rest = behind s.rest; operands = s.operands; items = s.items + 1 }

abbrev pub count_if : Bool → State → (State → Outcome) → Outcome
count_if true s k = k (counted s)
count_if false s k = refused 8 s.rest

-- One more item at this token, if the text may have it.
unfoldable pub count : State → (State → Outcome) → Outcome
count s k = count_if (nat_lt s.items max_items) s k

-- The operator of the rank k, if one stands here.
abbrev pub joining : ℕ → Kind → Option Operator
joining k (Number n) = None
joining k Large = None
joining k (Variable v) = None
joining k Unknown = None
joining k (Joins o) = cond (rank o == k) (Some o) None
joining k Not = None
joining k Open = None
joining k Close = None
joining k Other = None
joining k Misspelt = None

abbrev pub on_operator : Option Operator → Outcome → (Operator → Outcome) → Outcome
on_operator None d k = d
on_operator (Some o) d k = k o

-- The number of the refusal where a token is not wanted: 2 for a fault of spelling, else 3.
abbrev pub unwanted : Kind → ℕ
unwanted (Number n) = 3
unwanted Large = 3
unwanted (Variable v) = 3
unwanted Unknown = 3
unwanted (Joins o) = 3
unwanted Not = 3
unwanted Open = 3
unwanted Close = 3
unwanted Other = 3
unwanted Misspelt = 2

-- A number or a variable, if the expression and the text may have one more.
abbrev pub operand_if : Bool → State → Tree → Outcome
operand_if true s e = count s (λ t. read e (record { rest = t.rest; operands = t.operands + 1; items = t.items }))
operand_if false s e = refused 8 s.rest

unfoldable pub operand : State → Tree → Outcome
operand s e = operand_if (nat_lt s.operands max_operands) s e

-- What a ( and what a `not` open, read from that token on.
pub record Levels : Type 0 where
  pub bracket : State → Outcome
  pub denying : State → Outcome

-- An atom that begins with a token of this kind.
abbrev pub atom_at : Levels → State → Kind → Outcome
atom_at i s (Number n) = operand s (number n)
atom_at i s Large = refused 4 s.rest
atom_at i s (Variable v) = operand s (variable v)
atom_at i s Unknown = refused 6 s.rest
atom_at i s (Joins o) = refused 3 s.rest
atom_at i s Not = refused 3 s.rest
atom_at i s Open = i.bracket s
atom_at i s Close = refused 3 s.rest
atom_at i s Other = refused 3 s.rest
atom_at i s Misspelt = refused 2 s.rest

-- After the expression in brackets, its ) is wanted.
abbrev pub closed_at : Tree → State → Kind → Outcome
closed_at e s (Number n) = refused 3 s.rest
closed_at e s Large = refused 3 s.rest
closed_at e s (Variable v) = refused 3 s.rest
closed_at e s Unknown = refused 3 s.rest
closed_at e s (Joins o) = refused 3 s.rest
closed_at e s Not = refused 3 s.rest
closed_at e s Open = refused 3 s.rest
closed_at e s Close = read e (past s)
closed_at e s Other = refused 3 s.rest
closed_at e s Misspelt = refused 2 s.rest

module _ (scope : Scope) where
  -- The reading goes on after the part `acc`; the second number bounds how many tokens are left.
  unfoldable pub more : ℕ → (State → Outcome) → ℕ → Tree → State → Outcome
  more k one zero acc s = read acc s
  more k one (suc f) acc s =
      on_operator (joining k (seen scope s.rest)) (read acc s) (λ o. count s (λ t. then (one t) (λ e u. more k one f (joined o acc e) u)))

  -- Parts joined by the operators of the rank k, grouped from the left.
  unfoldable pub chain : ℕ → (State → Outcome) → State → Outcome
  chain k one s = then (one s) (λ e t. more k one (size t.rest) e t)

  unfoldable pub atom : Levels → State → Outcome
  atom i s = atom_at i s (seen scope s.rest)

  abbrev pub sum : Levels → State → Outcome
  sum i = chain 3 (atom i)

  -- After a first sum: a test with a second one, if its operator stands here.
  abbrev pub tested : Levels → Tree → State → Outcome
  tested i a s = on_operator (joining 2 (seen scope s.rest)) (read a s) (λ o. count s (λ t. then (sum i t) (λ b u. read (joined o a b) u)))

  abbrev pub test : Levels → State → Outcome
  test i s = then (sum i s) (tested i)

  abbrev pub factor_at : Levels → State → Kind → Outcome
  factor_at i s (Number n) = test i s
  factor_at i s Large = test i s
  factor_at i s (Variable v) = test i s
  factor_at i s Unknown = test i s
  factor_at i s (Joins o) = test i s
  factor_at i s Not = i.denying s
  factor_at i s Open = test i s
  factor_at i s Close = test i s
  factor_at i s Other = test i s
  factor_at i s Misspelt = test i s

  unfoldable pub factor : Levels → State → Outcome
  factor i s = factor_at i s (seen scope s.rest)

  abbrev pub term : Levels → State → Outcome
  term i = chain 1 (factor i)

  abbrev pub expression : Levels → State → Outcome
  expression i = chain 0 (term i)

  abbrev pub closed : Tree → State → Outcome
  closed e s = closed_at e s (seen scope s.rest)

  -- With so many levels left to open.
  unfoldable pub levels : ℕ → Levels
  levels zero = record { bracket = λ s. refused 8 s.rest; denying = λ s. refused 8 s.rest }
  levels (suc n) = record {
    bracket = λ s. then (expression (levels n) (past s)) closed;
    denying = λ s. count s (λ t. then (factor (levels n) t) (λ e u. read (denial e) u));
  }
