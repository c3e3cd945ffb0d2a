-- What the grammar derives within the limits, the reading accepts; so the same tokens are one tree. Assumes nothing.
use Rattle.std.proofs.Common.{◌≡◌, ℕ, zero, suc, ◌+◌, ◌<◌, ◌≤◌, cond, List, [], ◌∷◌, ◌++◌, length, Some, None, sym, refl, ap, ◌∙◌, subst, arith, length-append, lt-ltb, eq-eqb, ne_eqb}
use Rattle.lock_text.specs.Spelling.{Lexeme, name, word, mark}
use Rattle.lock_text.specs.Spelling as Lexemes
use Rattle.lock_text.specs.declared.token.Word.TheVariants as Words
use Rattle.lock_text.specs.declared.token.Mark.TheVariants as Marks
use Rattle.token_stream.specs.Streams.{Stream, token, end}
use Rattle.expression.specs.Tree.{Tree, number, variable, denial, joined, items, operands, max_operands, max_items}
use Rattle.expression.specs.declared.Operator.{Operator}
use Rattle.expression.specs.declared.Item.TheVariants as Items
use Rattle.expression_grammar.specs.Kinds.{Scope, decimal, kind, kind_of_number, kind_of_name, sign, rank, seen, behind, size}
use Rattle.expression_grammar.specs.Reading.{State, Outcome, read, then, past, counted, count_if, count, joining, on_operator, operand_if, operand, Levels, more, chain, atom_at, atom, sum, tested, test, factor_at, factor, term, expression, closed_at, closed, levels}
use Rattle.expression_grammar.specs.Grammar as G
use Rattle.expression_grammar.specs.Grammar.{Joined, Rules, Atom, Factor, Sum, Term, Expression, rules}
use Rattle.expression_grammar.specs.Laws.{Begins, after, CompleteReading, OneTree}
use Rattle.expression_grammar.specs.declared.kind.Kind.{Kind}
use Rattle.expression_grammar.specs.declared.kind.Kind.TheVariants.{Number, Large, Variable, Unknown, Operator as Joins, Not, Open, Close, Other, Misspelt}
use Rattle.expression_grammar.proofs.Facts.{begins_split, begins_size, begins_one, kind_here, kind_of_sign, no_join}
use Rattle.expression_grammar.proofs.Sound.{Relation}

-- the kind joins no parts of rank k or a tighter one
abbrev pub Stop : ℕ → Kind → Type 0
Stop k c = (j : ℕ) → k ≤ j → joining j c ≡ None

weaker : (k j : ℕ) (c : Kind) → k ≤ j → Stop k c → Stop j c
weaker k j c h s = λ i l. s i (omega arith)

stop_operator : (k : ℕ) (o : Operator) → rank o ≡ k → Stop (k + 1) (Joins o)
stop_operator k o h = λ j l. let ne : rank o ≡ j → ⊥ = (λ e. omega arith) in ap (λ b. cond b (Some o) None) (ne_eqb (rank o) j ne)

operator_joins : (k : ℕ) (o : Operator) → rank o ≡ k → joining k (Joins o) ≡ Some o
operator_joins k o h = ap (λ b. cond b (Some o) None) (eq-eqb (rank o) k h)

count_yes : (s : State) (k : State → Outcome) → s.items < max_items → count s k ≡ k (counted s)
unfolding count
count_yes s k h = ap (λ b. count_if b s k) (lt-ltb _ max_items h)

pub items_joined : (o : Operator) (a b : Tree) → length (items (joined o a b)) ≡ length (items a) + (length (items b) + 1)
items_joined o a b = length-append (items a) (items b ++ (Items.Operator o ∷ [])) ∙ ap (λ n. length (items a) + n) (length-append (items b) (Items.Operator o ∷ []))

pub items_denial : (e : Tree) → length (items (denial e)) ≡ length (items e) + 1
items_denial e = length-append (items e) (Items.Not ∷ [])

-- the state at an operator, then after the part behind it
after_joined : (s : State) (o : Operator) (a b : Tree) (y z : Stream) → after (counted (after s y a)) z b ≡ after s z (joined o a b)
after_joined s o a b y z =
    let p : s.operands + operands a + operands b ≡ s.operands + operands (joined o a b) = omega arith in
    let q : s.items + length (items a) + 1 + length (items b) ≡ s.items + length (items (joined o a b)) = omega (arith, items_joined o a b) in
    λ i. record { rest = z; operands = p i; items = q i }

operand_complete : (s : State) (e : Tree) (x : Stream) → behind s.rest ≡ x → operands e ≡ 1 → length (items e) ≡ 1 → s.operands + operands e ≤ max_operands → s.items + length (items e) ≤ max_items → operand s e ≡ read e (after s x e)
unfolding operand
operand_complete s e x r p q l1 l2 =
    ap (λ b. operand_if b s e) (lt-ltb _ max_operands (omega arith)) ∙ count_yes s _ (omega arith) ∙ (λ i. read e (record { rest = r i; operands = s.operands + sym p i; items = s.items + sym q i }))

module _ (scope : Scope) where
  abbrev pub CompleteBy : (State → Outcome) → Relation → ℕ → Type 0
  CompleteBy f P k =
      (s : State) (e : Tree) (ts : List Lexeme) (x : Stream) → P e ts → Begins s.rest ts x → Stop k (seen scope x) → s.operands + operands e ≤ max_operands → s.items + length (items e) ≤ max_items → f s ≡ read e (after s x e)

  -- an operator in front
  seen_sign : (x y : Stream) (o : Operator) (us : List Lexeme) → Begins x (sign o ∷ us) y → seen scope x ≡ Joins o
  seen_sign x y o us b = kind_here scope x (sign o) (begins_one x y (sign o) us b).0 ∙ kind_of_sign scope o

  module _ (k : ℕ) (one : State → Outcome) (P : Relation) (ok : CompleteBy one P (k + 1)) where
    turn : (s : State) (o : Operator) (a b : Tree) (us : List Lexeme) (y x : Stream) (f : ℕ) → rank o ≡ k → P b us → Begins y (sign o ∷ us) x → Stop (k + 1) (seen scope x) → s.operands + operands (joined o a b) ≤ max_operands → s.items + length (items (joined o a b)) ≤ max_items → size y ≤ f → chain scope k one s ≡ more scope k one f a (after s y a) → (g : ℕ) × (size x ≤ g) × (chain scope k one s ≡ more scope k one g (joined o a b) (after s x (joined o a b)))
    unfolding more
    turn s o a b us y x zero rk q by st l1 l2 h c = let z = begins_size y x (sign o ∷ us) by in absurd (omega arith)
    turn s o a b us y x (suc f) rk q by st l1 l2 h c =
        let s1 : State = after s y a in
        let lb = items_joined o a b in (
          f,
          omega (arith, begins_size y x (sign o ∷ us) by),
          c ∙ ap (λ j. on_operator j (read a s1) (λ o. count s1 (λ t. then (one t) (λ e u. more scope k one f (joined o a e) u)))) (ap (joining k) (seen_sign y x o us by) ∙ operator_joins k o rk) ∙ count_yes s1 _ (omega arith) ∙ ap (λ w. then w (λ e u. more scope k one f (joined o a e) u)) (ok (counted s1) b us x q (begins_one y x (sign o) us by).1 st (omega arith) (omega arith)) ∙ ap (more scope k one f (joined o a b)) (after_joined s o a b y x),
        )

    joined_on : {e : Tree} {ts : List Lexeme} → Joined k P e ts → (s : State) (x : Stream) → Begins s.rest ts x → Stop (k + 1) (seen scope x) → s.operands + operands e ≤ max_operands → s.items + length (items e) ≤ max_items → (f : ℕ) × (size x ≤ f) × (chain scope k one s ≡ more scope k one f e (after s x e))
    unfolding chain
    joined_on {e} {ts} (G.one p) s x r st l1 l2 = (size x, omega arith, ap (λ w. then w (λ e t. more scope k one (size t.rest) e t)) (ok s e ts x p r st l1 l2))
    joined_on (G.more {a} {b} {ts} {us} o rk d q) s x r st l1 l2 =
        let lb = items_joined o a b in
        let m = begins_split s.rest x ts (sign o ∷ us) r in
        let stop : Stop (k + 1) (seen scope m.0) = subst (Stop (k + 1)) (sym (seen_sign m.0 x o us m.2)) (stop_operator k o rk) in
        let ih = joined_on d s m.0 m.1 stop (omega arith) (omega arith) in
        turn s o a b us m.0 x ih.0 rk q m.2 st l1 l2 ih.1 ih.2

    stops : (f : ℕ) (e : Tree) (s : State) → joining k (seen scope s.rest) ≡ None → more scope k one f e s ≡ read e s
    unfolding more
    stops zero e s h = refl
    stops (suc f) e s h = ap (λ j. on_operator j (read e s) (λ o. count s (λ t. then (one t) (λ b u. more scope k one f (joined o e b) u)))) h

    pub chain_complete : CompleteBy (chain scope k one) (Joined k P) k
    chain_complete s e ts x d r st l1 l2 =
        let j = joined_on d s x r (weaker k (k + 1) _ (omega arith) st) l1 l2 in
        j.2 ∙ stops j.0 e (after s x e) (st k (omega arith))

  pub record CompleteIn (R : Rules) (i : Levels) : Type 0 where
    pub bracket : (s : State) (e : Tree) (ts : List Lexeme) (x : Stream) → R.in_brackets e ts → Begins (behind s.rest) (ts ++ (mark Marks.Close ∷ [])) x → s.operands + operands e ≤ max_operands → s.items + length (items e) ≤ max_items → i.bracket s ≡ read e (after s x e)
    pub denying : (s : State) (e : Tree) (ts : List Lexeme) (x : Stream) → R.denied e ts → Begins (behind s.rest) ts x → Stop 2 (seen scope x) → s.operands + operands e ≤ max_operands → s.items + length (items (denial e)) ≤ max_items → i.denying s ≡ read (denial e) (after s x (denial e))

  -- what a token in front is, and what follows it
  headed : (s : State) (l : Lexeme) (ts : List Lexeme) (x : Stream) (c : Kind) → kind scope l ≡ c → Begins s.rest (l ∷ ts) x → (seen scope s.rest ≡ c) × Begins (behind s.rest) ts x
  headed s l ts x c k b = let p = begins_one s.rest x l ts b in (kind_here scope s.rest l p.0 ∙ k, p.1)

  number_kind : (w : List ℕ) → decimal w < 256 → kind scope (Lexemes.number w) ≡ Number (decimal w)
  number_kind w h = ap (λ b. kind_of_number b (decimal w)) (lt-ltb (decimal w) 256 h)

  -- a sum does not begin with `not`
  atom_first : {R : Rules} {e : Tree} {ts : List Lexeme} → Atom scope R e ts → (x y : Stream) → Begins x ts y → seen scope x ≡ Not → ⊥
  atom_first (G.a_number w h) x y b p =
      let q = kind_here scope x (Lexemes.number w) (begins_one x y (Lexemes.number w) [] b).0 ∙ number_kind w h in
      let z : ◌≡◌ {A = ℕ} 0 1 = cc in
      omega arith
  atom_first (G.a_variable w v h) x y b p =
      let q = kind_here scope x (name w) (begins_one x y (name w) [] b).0 ∙ ap kind_of_name h in
      let z : ◌≡◌ {A = ℕ} 0 1 = cc in
      omega arith
  atom_first (G.bracketed {e} {ts} d) x y b p =
      let q = kind_here scope x (mark Marks.Open) (begins_one x y (mark Marks.Open) (ts ++ (mark Marks.Close ∷ [])) b).0 in
      let z : ◌≡◌ {A = ℕ} 0 1 = cc in
      omega arith

  sum_first : {R : Rules} {e : Tree} {ts : List Lexeme} → Sum scope R e ts → (x y : Stream) → Begins x ts y → seen scope x ≡ Not → ⊥
  sum_first (G.one p) x y b h = atom_first p x y b h
  sum_first (G.more {ts = ts} {us = us} o rk d q) x y b h = let m = begins_split x y ts (sign o ∷ us) b in sum_first d x m.0 m.1 h

  factor_plain : (i : Levels) (s : State) (c : Kind) → (c ≡ Not → ⊥) → factor_at scope i s c ≡ test scope i s
  factor_plain i s (Number n) h = refl
  factor_plain i s Large h = refl
  factor_plain i s (Variable v) h = refl
  factor_plain i s Unknown h = refl
  factor_plain i s (Joins o) h = refl
  factor_plain i s Not h = absurd (h refl)
  factor_plain i s Open h = refl
  factor_plain i s Close h = refl
  factor_plain i s Other h = refl
  factor_plain i s Misspelt h = refl

  module _ (R : Rules) (i : Levels) (ok : CompleteIn R i) where
    atom_go : {e : Tree} {ts : List Lexeme} → Atom scope R e ts → (s : State) (x : Stream) → Begins s.rest ts x → s.operands + operands e ≤ max_operands → s.items + length (items e) ≤ max_items → atom scope i s ≡ read e (after s x e)
    unfolding atom
    atom_go (G.a_number w h) s x r l1 l2 =
        let p = headed s (Lexemes.number w) [] x (Number (decimal w)) (number_kind w h) r in
        ap (atom_at i s) p.0 ∙ operand_complete s (number (decimal w)) x p.1 refl refl l1 l2
    atom_go (G.a_variable w v h) s x r l1 l2 =
        let p = headed s (name w) [] x (Variable v) (ap kind_of_name h) r in
        ap (atom_at i s) p.0 ∙ operand_complete s (variable v) x p.1 refl refl l1 l2
    atom_go (G.bracketed {e} {ts} d) s x r l1 l2 =
        let p = headed s (mark Marks.Open) (ts ++ (mark Marks.Close ∷ [])) x Open refl r in
        ap (atom_at i s) p.0 ∙ ok.bracket s e ts x d p.1 l1 l2

    pub atom_complete : CompleteBy (atom scope i) (Atom scope R) 4
    atom_complete s e ts x d r st l1 l2 = atom_go d s x r l1 l2

    pub sum_complete : CompleteBy (sum scope i) (Sum scope R) 3
    sum_complete = chain_complete 3 (atom scope i) (Atom scope R) atom_complete

    plain_is : (s : State) (e : Tree) (ts : List Lexeme) (x : Stream) → Sum scope R e ts → Begins s.rest ts x → factor scope i s ≡ test scope i s
    unfolding factor
    plain_is s e ts x d r = factor_plain i s (seen scope s.rest) (λ p. sum_first d s.rest x r p)

    factor_go : {e : Tree} {ts : List Lexeme} → Factor scope R e ts → (s : State) (x : Stream) → Begins s.rest ts x → Stop 2 (seen scope x) → s.operands + operands e ≤ max_operands → s.items + length (items e) ≤ max_items → factor scope i s ≡ read e (after s x e)
    unfolding factor
    factor_go (G.a_denial {e} {ts} d) s x r st l1 l2 =
        let p = headed s (word Words.Not) ts x Not refl r in
        ap (factor_at scope i s) p.0 ∙ ok.denying s e ts x d p.1 st l1 l2
    factor_go (G.a_sum {e} {ts} d) s x r st l1 l2 =
        let s1 : State = after s x e in
        plain_is s e ts x d r ∙ ap (λ o. then o (tested scope i)) (sum_complete s e ts x d r (weaker 2 3 _ (omega arith) st) l1 l2) ∙ ap (λ j. on_operator j (read e s1) (λ o. count s1 (λ t. then (sum scope i t) (λ b u. read (joined o e b) u)))) (st 2 (omega arith))
    factor_go (G.a_test {a} {b} {ts} {us} o rk d q) s x r st l1 l2 =
        let lb = items_joined o a b in
        let m = begins_split s.rest x ts (sign o ∷ us) r in
        let y = m.0 in
        let here = seen_sign y x o us m.2 in
        let stop : Stop 3 (seen scope y) = subst (Stop 3) (sym here) (stop_operator 2 o rk) in
        let s1 : State = after s y a in
        plain_is s a ts y d m.1 ∙ ap (λ o. then o (tested scope i)) (sum_complete s a ts y d m.1 stop (omega arith) (omega arith)) ∙ ap (λ j. on_operator j (read a s1) (λ o. count s1 (λ t. then (sum scope i t) (λ b u. read (joined o a b) u)))) (ap (joining 2) here ∙ operator_joins 2 o rk) ∙ count_yes s1 _ (omega arith) ∙ ap (λ w. then w (λ b u. read (joined o a b) u)) (sum_complete (counted s1) b us x q (begins_one y x (sign o) us m.2).1 (weaker 2 3 _ (omega arith) st) (omega arith) (omega arith)) ∙ ap (read (joined o a b)) (after_joined s o a b y x)

    pub factor_complete : CompleteBy (factor scope i) (Factor scope R) 2
    factor_complete s e ts x d r st l1 l2 = factor_go d s x r st l1 l2

    pub expression_complete : CompleteBy (expression scope i) (Expression scope R) 0
    expression_complete = chain_complete 0 (term scope i) (Term scope R) (chain_complete 1 (factor scope i) (Factor scope R) factor_complete)

  pub levels_complete : (n : ℕ) → CompleteIn (rules scope n) (levels scope n)
  unfolding levels
  levels_complete zero = record { bracket = λ s e ts x d r l1 l2. absurd d; denying = λ s e ts x d r st l1 l2. absurd d }
  levels_complete (suc n) =
      let below = levels_complete n in
      record {
        bracket = λ s e ts x d r l1 l2.
            let m = begins_split (behind s.rest) x ts (mark Marks.Close ∷ []) r in
            let y = m.0 in
            let c = begins_one y x (mark Marks.Close) [] m.2 in
            let here : seen scope y ≡ Close = kind_here scope y (mark Marks.Close) c.0 in
            let stop : Stop 0 (seen scope y) = λ j l. ap (joining j) here in
            ap (λ o. then o (closed scope)) (expression_complete (rules scope n) (levels scope n) below (past s) e ts y d m.1 stop l1 l2) ∙ ap (closed_at e (after s y e)) here ∙ (λ i. read e (after s (c.1 i) e));
        denying = λ s e ts x d r st l1 l2.
            let li = items_denial e in
            let q : s.items + 1 + length (items e) ≡ s.items + length (items (denial e)) = omega arith in
            count_yes s _ (omega arith) ∙ ap (λ o. then o (λ e u. read (denial e) u)) (factor_complete (rules scope n) (levels scope n) below (counted s) e ts x d r st l1 (omega arith)) ∙ (λ i. read (denial e) (record { rest = x; operands = s.operands + operands e; items = q i }));
      }

  pub read_complete : (n : ℕ) → CompleteBy (expression scope (levels scope n)) (Expression scope (rules scope n)) 0
  read_complete n = expression_complete (rules scope n) (levels scope n) (levels_complete n)

pub complete_reading : CompleteReading
complete_reading scope n s e ls x d b st (p, q) = read_complete scope n s e ls x d b (λ j h. no_join scope x st j) p q

-- a stream of just these tokens
alone : List Lexeme → Stream
alone [] = end 0
alone (l ∷ ls) = token l 0 (alone ls)

begins_alone : (ls : List Lexeme) → Begins (alone ls) ls (end 0)
unfolding alone
begins_alone [] = refl
begins_alone (l ∷ ls) = (0, alone ls, refl, begins_alone ls)

pub one_tree : OneTree
one_tree scope n ls e e' d d' l l' m m' =
    let s : State = record { rest = alone ls; operands = 0; items = 0 } in
    let p = read_complete scope n s e ls (end 0) d (begins_alone ls) (λ j h. refl) (omega arith) (omega arith) in
    let q = read_complete scope n s e' ls (end 0) d' (begins_alone ls) (λ j h. refl) (omega arith) (omega arith) in
    cc
