-- Streams that begin with some tokens, and what a kind tells of its token. Assumes nothing.
use Rattle.std.proofs.Common.{◌≡◌, ℕ, ◌+◌, ◌<◌, Bool, true, false, cond, ltb, List, [], ◌∷◌, ◌++◌, length, Some, None, Option, sym, refl, ap, ◌∙◌, subst, arith, ltb-true, eqb-true}
use Rattle.lock_text.specs.Spelling.{Lexeme, name, number, word, mark}
use Rattle.lock_text.specs.declared.token.Word.{Word}
use Rattle.lock_text.specs.declared.token.Word.TheVariants as Words
use Rattle.lock_text.specs.declared.token.Mark.{Mark}
use Rattle.lock_text.specs.declared.token.Mark.TheVariants as Marks
use Rattle.token_stream.specs.Streams.{Stream, token, fault, end}
use Rattle.expression.specs.declared.Operator.{Operator}
use Rattle.expression.specs.declared.Operator.TheVariants as Operators
use Rattle.expression_grammar.specs.Kinds.{Scope, decimal, kind, kind_of_number, kind_of_name, kind_of_word, kind_of_mark, sign, rank, seen, place, behind, size}
use Rattle.expression_grammar.specs.Reading.{joining}
use Rattle.expression_grammar.specs.Laws.{Begins, Front, a_token, a_fault, the_end, front, NoOperator}
use Rattle.expression_grammar.specs.declared.kind.Kind.{Kind}
use Rattle.expression_grammar.specs.declared.kind.Kind.TheVariants.{Number, Large, Variable, Unknown, Operator as Joins, Not, Open, Close, Other, Misspelt}

-- streams that begin with some tokens

pub begins_on : (x y z : Stream) (ts us : List Lexeme) → Begins x ts y → Begins y us z → Begins x (ts ++ us) z
begins_on x y z [] us p q = subst (λ (w : Stream). Begins w us z) (sym p) q
begins_on x y z (l ∷ ts) us (s, w, e, p) q = (s, w, e, begins_on w y z ts us p q)

pub begins_split : (x z : Stream) (ts us : List Lexeme) → Begins x (ts ++ us) z → (y : Stream) × Begins x ts y × Begins y us z
begins_split x z [] us p = (x, refl, p)
begins_split x z (l ∷ ts) us (s, w, e, p) = let r = begins_split w z ts us p in (r.0, (s, w, e, r.1), r.2)

pub begins_size : (x y : Stream) (ts : List Lexeme) → Begins x ts y → size x ≡ length ts + size y
begins_size x y [] p = let q : size x ≡ size y = ap size p in omega arith
begins_size x y (l ∷ ts) (s, w, e, p) =
    let r = begins_size w y ts p in
    let q : size x ≡ size w + 1 = ap size e in
    omega arith

-- the first token, and what follows it
pub begins_one : (x y : Stream) (l : Lexeme) (ts : List Lexeme) → Begins x (l ∷ ts) y → (front x ≡ a_token l) × Begins (behind x) ts y
begins_one x y l ts (s, z, e, p) = (ap front e, subst (λ (w : Stream). Begins w ts y) (sym (ap behind e)) p)

pub begins_with : (x : Stream) (l : Lexeme) → x ≡ token l (place x) (behind x) → (y : Stream) (ts : List Lexeme) → Begins (behind x) ts y → Begins x (l ∷ ts) y
begins_with x l e y ts p = (place x, behind x, e, p)

-- streams that begin with the same tokens have the same front, if what follows has
pub same_front : (x y p q : Stream) (ts : List Lexeme) → Begins x ts p → Begins y ts q → front p ≡ front q → front x ≡ front y
same_front x y p q [] a b h = ap front a ∙ h ∙ sym (ap front b)
same_front x y p q (l ∷ ts) (s, z, e, a) (u, w, f, b) h = ap front e ∙ sym (ap front f)

seen_in : Scope → Front → Kind
seen_in scope (a_token l) = kind scope l
seen_in scope a_fault = Misspelt
seen_in scope the_end = Other

seen_is : (scope : Scope) (x : Stream) → seen scope x ≡ seen_in scope (front x)
unfolding seen_in
seen_is scope (token l s x) = refl
seen_is scope (fault s) = refl
seen_is scope (end n) = refl

pub same_kind : (scope : Scope) (x y : Stream) → front x ≡ front y → seen scope x ≡ seen scope y
same_kind scope x y h = seen_is scope x ∙ ap (seen_in scope) h ∙ sym (seen_is scope y)

pub kind_here : (scope : Scope) (x : Stream) (l : Lexeme) → front x ≡ a_token l → seen scope x ≡ kind scope l
unfolding seen_in
kind_here scope x l h = seen_is scope x ∙ ap (seen_in scope) h

-- what a kind tells of its token

abbrev pub Says : Scope → Kind → Lexeme → Type 0
Says scope (Number n) l = (w : List ℕ) × (l ≡ number w) × (decimal w ≡ n) × (decimal w < 256)
Says scope Large l = Unit {0}
Says scope (Variable v) l = (w : List ℕ) × (l ≡ name w) × (scope w ≡ Some v)
Says scope Unknown l = Unit {0}
Says scope (Joins o) l = l ≡ sign o
Says scope Not l = l ≡ word Words.Not
Says scope Open l = l ≡ mark Marks.Open
Says scope Close l = l ≡ mark Marks.Close
Says scope Other l = Unit {0}
Says scope Misspelt l = Unit {0}

says_number : (scope : Scope) (w : List ℕ) (b : Bool) → ltb (decimal w) 256 ≡ b → Says scope (kind_of_number b (decimal w)) (number w)
says_number scope w true h = (w, refl, refl, ltb-true _ 256 h)
says_number scope w false h = tt

says_name : (scope : Scope) (w : List ℕ) (v : Option ℕ) → scope w ≡ v → Says scope (kind_of_name v) (name w)
says_name scope w (Some v) h = (w, refl, h)
says_name scope w None h = tt

says_word : (scope : Scope) (k : Word) → Says scope (kind_of_word k) (word k)
says_word scope Words.Procs = tt
says_word scope Words.Vars = tt
says_word scope Words.Locs = tt
says_word scope Words.Classes = tt
says_word scope Words.Cmds = tt
says_word scope Words.Idle = tt
says_word scope Words.Try = tt
says_word scope Words.Crit = tt
says_word scope Words.Exit = tt
says_word scope Words.None = tt
says_word scope Words.And = refl
says_word scope Words.Or = refl
says_word scope Words.Not = refl

says_mark : (scope : Scope) (m : Mark) → Says scope (kind_of_mark m) (mark m)
says_mark scope Marks.Open = refl
says_mark scope Marks.Close = refl
says_mark scope Marks.Plus = refl
says_mark scope Marks.Minus = refl
says_mark scope Marks.Assign = tt
says_mark scope Marks.Equal = refl
says_mark scope Marks.NotEqual = refl
says_mark scope Marks.Less = refl
says_mark scope Marks.LessEqual = refl
says_mark scope Marks.Colon = tt
says_mark scope Marks.Semicolon = tt
says_mark scope Marks.Comma = tt

says : (scope : Scope) (l : Lexeme) → Says scope (kind scope l) l
says scope (name w) = says_name scope w (scope w) refl
says scope (number w) = says_number scope w _ refl
says scope (word k) = says_word scope k
says scope (mark m) = says_mark scope m

abbrev pub OfToken : Kind → Type 0
OfToken (Number n) = Unit {0}
OfToken Large = Unit {0}
OfToken (Variable v) = Unit {0}
OfToken Unknown = Unit {0}
OfToken (Joins o) = Unit {0}
OfToken Not = Unit {0}
OfToken Open = Unit {0}
OfToken Close = Unit {0}
OfToken Other = ⊥
OfToken Misspelt = ⊥

-- a kind that is neither the end's nor a fault's is a token's
pub stands : (scope : Scope) (x : Stream) (c : Kind) → seen scope x ≡ c → OfToken c → (l : Lexeme) × (x ≡ token l (place x) (behind x)) × Says scope c l
stands scope (token l s y) c h n = (l, refl, subst (λ (k : Kind). Says scope k l) h (says scope l))
stands scope (fault s) c h n = absurd (subst OfToken (sym h) n)
stands scope (end s) c h n = absurd (subst OfToken (sym h) n)

told : (x : Stream) (l m : Lexeme) → x ≡ token l (place x) (behind x) → l ≡ m → x ≡ token m (place x) (behind x)
told x l m e f = e ∙ ap (λ k. token k (place x) (behind x)) f

module _ (scope : Scope) (x : Stream) where
  pub operator_here : (o : Operator) → seen scope x ≡ Joins o → x ≡ token (sign o) (place x) (behind x)
  operator_here o h =
      let p = stands scope x (Joins o) h tt in
      told x p.0 (sign o) p.1 p.2

  pub not_here : seen scope x ≡ Not → x ≡ token (word Words.Not) (place x) (behind x)
  not_here h =
      let p = stands scope x Not h tt in
      told x p.0 (word Words.Not) p.1 p.2

  pub open_here : seen scope x ≡ Open → x ≡ token (mark Marks.Open) (place x) (behind x)
  open_here h =
      let p = stands scope x Open h tt in
      told x p.0 (mark Marks.Open) p.1 p.2

  pub close_here : seen scope x ≡ Close → x ≡ token (mark Marks.Close) (place x) (behind x)
  close_here h =
      let p = stands scope x Close h tt in
      told x p.0 (mark Marks.Close) p.1 p.2

  pub number_here : (n : ℕ) → seen scope x ≡ Number n → (w : List ℕ) × (x ≡ token (number w) (place x) (behind x)) × (decimal w ≡ n) × (decimal w < 256)
  number_here n h =
      let p = stands scope x (Number n) h tt in
      let q = p.2 in
      (q.0, told x p.0 (number q.0) p.1 q.1, q.2, q.3)

  pub variable_here : (v : ℕ) → seen scope x ≡ Variable v → (w : List ℕ) × (x ≡ token (name w) (place x) (behind x)) × (scope w ≡ Some v)
  variable_here v h =
      let p = stands scope x (Variable v) h tt in
      let q = p.2 in
      (q.0, told x p.0 (name q.0) p.1 q.1, q.2)

pub kind_of_sign : (scope : Scope) (o : Operator) → kind scope (sign o) ≡ Joins o
kind_of_sign scope Operators.Or = refl
kind_of_sign scope Operators.And = refl
kind_of_sign scope Operators.Equal = refl
kind_of_sign scope Operators.NotEqual = refl
kind_of_sign scope Operators.Less = refl
kind_of_sign scope Operators.LessEqual = refl
kind_of_sign scope Operators.Plus = refl
kind_of_sign scope Operators.Minus = refl

-- operators of a rank

pub no_operator : {A : Type 0} {o : Operator} → ◌≡◌ {A = Option Operator} None (Some o) → A
no_operator h = let z : ◌≡◌ {A = ℕ} 0 1 = cc in absurd (omega arith)

cond_some : (b : Bool) (o o' : Operator) → cond b (Some o) None ≡ Some o' → (b ≡ true) × (o ≡ o')
cond_some true o o' h = (refl, cc)
cond_some false o o' h = no_operator h

pub joining_tells : (k : ℕ) (c : Kind) (o : Operator) → joining k c ≡ Some o → (c ≡ Joins o) × (rank o ≡ k)
joining_tells k (Number n) o h = no_operator h
joining_tells k Large o h = no_operator h
joining_tells k (Variable v) o h = no_operator h
joining_tells k Unknown o h = no_operator h
joining_tells k (Joins x) o h = let p = cond_some _ x o h in (ap Joins p.1, ap rank (sym p.1) ∙ eqb-true _ k p.0)
joining_tells k Not o h = no_operator h
joining_tells k Open o h = no_operator h
joining_tells k Close o h = no_operator h
joining_tells k Other o h = no_operator h
joining_tells k Misspelt o h = no_operator h

-- where no operator stands in front, none of any rank does
none_joins : (k : ℕ) (c : Kind) → ((o : Operator) → c ≡ Joins o → ⊥) → joining k c ≡ None
none_joins k (Number n) h = refl
none_joins k Large h = refl
none_joins k (Variable v) h = refl
none_joins k Unknown h = refl
none_joins k (Joins x) h = absurd (h x refl)
none_joins k Not h = refl
none_joins k Open h = refl
none_joins k Close h = refl
none_joins k Other h = refl
none_joins k Misspelt h = refl

pub no_join : (scope : Scope) (x : Stream) → NoOperator x → (k : ℕ) → joining k (seen scope x) ≡ None
no_join scope x h k = none_joins k (seen scope x) (λ o p. h o (ap front (operator_here scope x o p)))
