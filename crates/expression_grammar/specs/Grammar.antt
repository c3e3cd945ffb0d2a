-- The grammar of expressions: which tokens are which tree. Assumes nothing.
use Rattle.std.specs.Prelude.{◌≡◌, ℕ, zero, suc, ◌<◌, List, [], ◌∷◌, ◌++◌, Some}
use Rattle.lock_text.specs.Spelling.{Lexeme, name, word, mark}
use Rattle.lock_text.specs.Spelling as Lexemes
use Rattle.lock_text.specs.declared.token.Word.TheVariants.{Not}
use Rattle.lock_text.specs.declared.token.Mark.TheVariants.{Open, Close}
use Rattle.expression.specs.Tree.{Tree, number, variable, denial, joined}
use Rattle.expression.specs.declared.Operator.{Operator}
use Rattle.expression_grammar.specs.Kinds.{Scope, decimal, sign, rank}

-- Parts joined by operators of one rank, grouped from the left.
pub data Joined (k : ℕ) (Part : Tree → List Lexeme → Type 0) : Tree → List Lexeme → Type 0 where
  one : {e : Tree} {ts : List Lexeme} → Part e ts → Joined k Part e ts
  more : {a b : Tree} {ts us : List Lexeme} (o : Operator) → rank o ≡ k → Joined k Part a ts → Part b us → Joined k Part (joined o a b) (ts ++ (sign o ∷ us))

-- What may stand one level further in: between ( and ), and after `not`.
pub record Rules : Type 1 where
  pub in_brackets : Tree → List Lexeme → Type 0
  pub denied : Tree → List Lexeme → Type 0

module _ (scope : Scope) where
  -- An atom is a number up to 255, a variable, or ( expression ).
  pub data Atom (R : Rules) : Tree → List Lexeme → Type 0 where
    a_number : (w : List ℕ) → decimal w < 256 → Atom R (number (decimal w)) (Lexemes.number w ∷ [])
    a_variable : (w : List ℕ) (v : ℕ) → scope w ≡ Some v → Atom R (variable v) (name w ∷ [])
    bracketed : {e : Tree} {ts : List Lexeme} → R.in_brackets e ts → Atom R e (mark Open ∷ (ts ++ (mark Close ∷ [])))

  -- A sum is atoms joined by + and -.
  abbrev pub Sum : Rules → Tree → List Lexeme → Type 0
  Sum R = Joined 3 (Atom R)

  -- A factor is `not` factor, or a sum, or two sums with one of == != < <= between.
  pub data Factor (R : Rules) : Tree → List Lexeme → Type 0 where
    a_denial : {e : Tree} {ts : List Lexeme} → R.denied e ts → Factor R (denial e) (word Not ∷ ts)
    a_sum : {e : Tree} {ts : List Lexeme} → Sum R e ts → Factor R e ts
    a_test : {a b : Tree} {ts us : List Lexeme} (o : Operator) → rank o ≡ 2 → Sum R a ts → Sum R b us → Factor R (joined o a b) (ts ++ (sign o ∷ us))

  -- A term is factors joined by `and`.
  abbrev pub Term : Rules → Tree → List Lexeme → Type 0
  Term R = Joined 1 (Factor R)

  -- An expression is terms joined by `or`.
  abbrev pub Expression : Rules → Tree → List Lexeme → Type 0
  Expression R = Joined 0 (Term R)

  -- With so many levels left: each ( and each `not` opens one.
  abbrev pub rules : ℕ → Rules
  rules zero = record { in_brackets = λ e ts. ⊥; denied = λ e ts. ⊥ }
  rules (suc n) = record { in_brackets = Expression (rules n); denied = Factor (rules n) }
