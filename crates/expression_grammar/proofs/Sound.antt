-- What the reading accepts, the grammar derives. Assumes nothing.
use Rattle.std.proofs.Common.{◌≡◌, ℕ, zero, suc, ◌+◌, ◌<◌, ◌≤◌, Bool, true, false, List, [], ◌∷◌, ◌++◌, length, Some, None, Option, refl, subst, arith, length-append, ltb-true}
use Rattle.lock_text.specs.Spelling.{Lexeme, name, word, mark}
use Rattle.lock_text.specs.Spelling as Lexemes
use Rattle.lock_text.specs.declared.token.Word.TheVariants as Words
use Rattle.lock_text.specs.declared.token.Mark.TheVariants as Marks
use Rattle.token_stream.specs.Streams.{Stream, token}
use Rattle.expression.specs.Tree.{Tree, number, variable, denial, joined, items, operands, max_operands, max_items}
use Rattle.expression.specs.declared.Operator.{Operator}
use Rattle.expression_grammar.specs.Kinds.{Scope, sign, seen, place, behind}
use Rattle.expression_grammar.specs.Reading.{State, Outcome, refused, read, then, past, counted, count_if, count, joining, on_operator, operand_if, operand, Levels, more, chain, atom_at, atom, sum, test, factor_at, factor, term, expression, closed_at, levels}
use Rattle.expression_grammar.specs.Grammar as G
use Rattle.expression_grammar.specs.Grammar.{Joined, Rules, Atom, Factor, Sum, Term, Expression, rules}
use Rattle.expression_grammar.specs.Laws.{Begins, SoundReading}
use Rattle.expression_grammar.specs.declared.kind.Kind.{Kind}
use Rattle.expression_grammar.specs.declared.kind.Kind.TheVariants.{Number, Large, Variable, Unknown, Operator as Joins, Not, Open, Close, Other, Misspelt}
use Rattle.expression_grammar.proofs.Facts.{begins_on, begins_with, joining_tells, operator_here, not_here, open_here, close_here, number_here, variable_here}

abbrev pub Relation : Type 1
Relation = Tree → List Lexeme → Type 0

-- from s to s' the tokens of e were read
pub record Got (P : Relation) (s : State) (e : Tree) (s' : State) : Type 0 where
  pub tokens : List Lexeme
  pub split : Begins s.rest tokens s'.rest
  pub holds : P e tokens
  pub nums : s'.operands ≡ s.operands + operands e
  pub used : s'.items ≡ s.items + length (items e)
  pub few : s'.operands ≤ max_operands
  pub room : s'.items ≤ max_items

abbrev pub SoundBy : (State → Outcome) → Relation → Type 0
SoundBy f P = (s : State) (e : Tree) (s' : State) → f s ≡ read e s' → Got P s e s'

clash : {A : Type 0} {n : ℕ} {x : Stream} {e : Tree} {s : State} → refused n x ≡ read e s → A
clash h = let z : ◌≡◌ {A = ℕ} 0 1 = cc in absurd (omega arith)

same : (P : Relation) (s0 : State) (a e : Tree) (s s' : State) → read a s ≡ read e s' → Got P s0 a s → Got P s0 e s'
same P s0 a e s s' h g =
    let p : a ≡ e = cc in
    let q : s ≡ s' = cc in
    subst (λ (x : Tree). Got P s0 x s') p (subst (λ (x : State). Got P s0 a x) q g)

then_read : (o : Outcome) (k : Tree → State → Outcome) (e : Tree) (s : State) → then o k ≡ read e s → (a : Tree) × (t : State) × (o ≡ read a t) × (k a t ≡ read e s)
then_read (refused n x) k e s h = clash h
then_read (read a t) k e s h = (a, t, refl, h)

count_if_read : (b : Bool) (s : State) (k : State → Outcome) (e : Tree) (s' : State) → count_if b s k ≡ read e s' → (b ≡ true) × (k (counted s) ≡ read e s')
count_if_read true s k e s' h = (refl, h)
count_if_read false s k e s' h = clash h

count_read : (s : State) (k : State → Outcome) (e : Tree) (s' : State) → count s k ≡ read e s' → (s.items < max_items) × (k (counted s) ≡ read e s')
unfolding count
count_read s k e s' h = let p = count_if_read _ s k e s' h in (ltb-true _ max_items p.0, p.1)

-- another relation that the same tokens are in
kept : (P Q : Relation) (s : State) (e : Tree) (s' : State) → ((ts : List Lexeme) → P e ts → Q e ts) → Got P s e s' → Got Q s e s'
kept P Q s e s' make g = record { tokens = g.tokens; split = g.split; holds = make g.tokens g.holds; nums = g.nums; used = g.used; few = g.few; room = g.room }

-- two parts and their operator
two : (P Q R : Relation) (o : Operator) (s0 s s2 : State) (a b : Tree) → s.rest ≡ token (sign o) (place s.rest) (behind s.rest) → Got P s0 a s → Got Q (counted s) b s2 →
    ((ts us : List Lexeme) → P a ts → Q b us → R (joined o a b) (ts ++ (sign o ∷ us))) → Got R s0 (joined o a b) s2
two P Q R o s0 s s2 a b t g h make = record {
  tokens = g.tokens ++ (sign o ∷ h.tokens);
  split = begins_on s0.rest s.rest s2.rest g.tokens (sign o ∷ h.tokens) g.split (begins_with s.rest (sign o) t s2.rest h.tokens h.split);
  holds = make g.tokens h.tokens g.holds h.holds;
  nums = omega (arith, g.nums, h.nums);
  used = simp length-append (omega (arith, g.used, h.used));
  few = h.few;
  room = h.room;
}

-- numbers and variables

operand_if_read : (b : Bool) (s : State) (e e' : Tree) (s' : State) → operand_if b s e ≡ read e' s' → (b ≡ true) × (count s (λ t. read e (record { rest = t.rest; operands = t.operands + 1; items = t.items })) ≡ read e' s')
operand_if_read true s e e' s' h = (refl, h)
operand_if_read false s e e' s' h = clash h

operand_sound : (P : Relation) (s : State) (l : Lexeme) (e e' : Tree) (s' : State) → s.rest ≡ token l (place s.rest) (behind s.rest) → P e (l ∷ []) → operands e ≡ 1 → length (items e) ≡ 1 → operand s e ≡ read e' s' → Got P s e' s'
unfolding operand
operand_sound P s l e e' s' r p l1 l2 h =
    let b = operand_if_read _ s e e' s' h in
    let lt = ltb-true _ max_operands b.0 in
    let sp = count_read s _ e' s' b.1 in
    same P s e e' _ s' sp.1 (record { tokens = l ∷ []; split = begins_with s.rest l r _ [] refl; holds = p; nums = omega arith; used = omega arith; few = omega arith; room = omega (arith, sp.0) })

module _ (scope : Scope) where
  module _ (k : ℕ) (one : State → Outcome) (P : Relation) (ok : SoundBy one P) where
    more_at : (f : ℕ) (s0 : State) (acc : Tree) (s : State) (e : Tree) (s' : State) → Got (Joined k P) s0 acc s → ((a : Tree) (s2 : State) → Got (Joined k P) s0 a s2 → more scope k one f a s2 ≡ read e s' → Got (Joined k P) s0 e s') → (j : Option Operator) → joining k (seen scope s.rest) ≡ j → on_operator j (read acc s) (λ o. count s (λ t. then (one t) (λ b u. more scope k one f (joined o acc b) u))) ≡ read e s' → Got (Joined k P) s0 e s'
    more_at f s0 acc s e s' g again None j h = same (Joined k P) s0 acc e s s' h g
    more_at f s0 acc s e s' g again (Some o) j h =
        let sp = count_read s _ e s' h in
        let bd = then_read (one (counted s)) _ e s' sp.1 in
        let t = joining_tells k _ o j in
        again (joined o acc bd.0) bd.1 (two (Joined k P) P (Joined k P) o s0 s bd.1 acc bd.0 (operator_here scope s.rest o t.0) g (ok (counted s) bd.0 bd.1 bd.2) (λ ts us p q. G.more o t.1 p q)) bd.3

    more_sound : (f : ℕ) (s0 : State) (acc : Tree) (s : State) (e : Tree) (s' : State) → Got (Joined k P) s0 acc s → more scope k one f acc s ≡ read e s' → Got (Joined k P) s0 e s'
    unfolding more
    more_sound zero s0 acc s e s' g h = same (Joined k P) s0 acc e s s' h g
    more_sound (suc f) s0 acc s e s' g h = more_at f s0 acc s e s' g (λ a s2 g2 h2. more_sound f s0 a s2 e s' g2 h2) _ refl h

    pub chain_sound : SoundBy (chain scope k one) (Joined k P)
    unfolding chain
    chain_sound s e s' h =
        let bd = then_read (one s) _ e s' h in
        more_sound _ s bd.0 bd.1 e s' (kept P (Joined k P) s bd.0 bd.1 (λ ts p. G.one p) (ok s bd.0 bd.1 bd.2)) bd.3

  -- one level

  pub record SoundIn (R : Rules) (i : Levels) : Type 0 where
    pub bracket : (s : State) (e : Tree) (s' : State) → seen scope s.rest ≡ Open → i.bracket s ≡ read e s' → Got (Atom scope R) s e s'
    pub denying : (s : State) (e : Tree) (s' : State) → seen scope s.rest ≡ Not → i.denying s ≡ read e s' → Got (Factor scope R) s e s'

  module _ (R : Rules) (i : Levels) (ok : SoundIn R i) where
    atom_by : (c : Kind) (s : State) (e : Tree) (s' : State) → seen scope s.rest ≡ c → atom_at i s c ≡ read e s' → Got (Atom scope R) s e s'
    atom_by (Number n) s e s' t h =
        let p = number_here scope s.rest n t in
        operand_sound (Atom scope R) s (Lexemes.number p.0) (number n) e s' p.1 (subst (λ (m : ℕ). Atom scope R (number m) (Lexemes.number p.0 ∷ [])) p.2 (G.a_number p.0 p.3)) refl refl h
    atom_by Large s e s' t h = clash h
    atom_by (Variable v) s e s' t h =
        let p = variable_here scope s.rest v t in
        operand_sound (Atom scope R) s (name p.0) (variable v) e s' p.1 (G.a_variable p.0 v p.2) refl refl h
    atom_by Unknown s e s' t h = clash h
    atom_by (Joins o) s e s' t h = clash h
    atom_by Not s e s' t h = clash h
    atom_by Open s e s' t h = ok.bracket s e s' t h
    atom_by Close s e s' t h = clash h
    atom_by Other s e s' t h = clash h
    atom_by Misspelt s e s' t h = clash h

    pub atom_sound : SoundBy (atom scope i) (Atom scope R)
    unfolding atom
    atom_sound s e s' h = atom_by (seen scope s.rest) s e s' refl h

    pub sum_sound : SoundBy (sum scope i) (Sum scope R)
    sum_sound = chain_sound 3 (atom scope i) (Atom scope R) atom_sound

    tested_by : (s0 : State) (a : Tree) (s : State) (e : Tree) (s' : State) → Got (Sum scope R) s0 a s → (j : Option Operator) → joining 2 (seen scope s.rest) ≡ j → on_operator j (read a s) (λ o. count s (λ t. then (sum scope i t) (λ b u. read (joined o a b) u))) ≡ read e s' → Got (Factor scope R) s0 e s'
    tested_by s0 a s e s' g None j h = same (Factor scope R) s0 a e s s' h (kept (Sum scope R) (Factor scope R) s0 a s (λ ts p. G.a_sum p) g)
    tested_by s0 a s e s' g (Some o) j h =
        let sp = count_read s _ e s' h in
        let bd = then_read (sum scope i (counted s)) _ e s' sp.1 in
        let t = joining_tells 2 _ o j in
        same (Factor scope R) s0 (joined o a bd.0) e bd.1 s' bd.3
        (two (Sum scope R) (Sum scope R) (Factor scope R) o s0 s bd.1 a bd.0 (operator_here scope s.rest o t.0) g (sum_sound (counted s) bd.0 bd.1 bd.2) (λ ts us p q. G.a_test o t.1 p q))

    test_sound : SoundBy (test scope i) (Factor scope R)
    test_sound s e s' h =
        let bd = then_read (sum scope i s) _ e s' h in
        tested_by s bd.0 bd.1 e s' (sum_sound s bd.0 bd.1 bd.2) _ refl bd.3

    factor_by : (c : Kind) (s : State) (e : Tree) (s' : State) → seen scope s.rest ≡ c → factor_at scope i s c ≡ read e s' → Got (Factor scope R) s e s'
    factor_by (Number n) s e s' t h = test_sound s e s' h
    factor_by Large s e s' t h = test_sound s e s' h
    factor_by (Variable v) s e s' t h = test_sound s e s' h
    factor_by Unknown s e s' t h = test_sound s e s' h
    factor_by (Joins o) s e s' t h = test_sound s e s' h
    factor_by Not s e s' t h = ok.denying s e s' t h
    factor_by Open s e s' t h = test_sound s e s' h
    factor_by Close s e s' t h = test_sound s e s' h
    factor_by Other s e s' t h = test_sound s e s' h
    factor_by Misspelt s e s' t h = test_sound s e s' h

    pub factor_sound : SoundBy (factor scope i) (Factor scope R)
    unfolding factor
    factor_sound s e s' h = factor_by (seen scope s.rest) s e s' refl h

    pub expression_sound : SoundBy (expression scope i) (Expression scope R)
    expression_sound = chain_sound 0 (term scope i) (Term scope R) (chain_sound 1 (factor scope i) (Factor scope R) factor_sound)

  -- all levels

  close_by : (c : Kind) (a : Tree) (s : State) (e : Tree) (s' : State) → seen scope s.rest ≡ c → closed_at a s c ≡ read e s' → (seen scope s.rest ≡ Close) × (read a (past s) ≡ read e s')
  close_by (Number n) a s e s' t h = clash h
  close_by Large a s e s' t h = clash h
  close_by (Variable v) a s e s' t h = clash h
  close_by Unknown a s e s' t h = clash h
  close_by (Joins o) a s e s' t h = clash h
  close_by Not a s e s' t h = clash h
  close_by Open a s e s' t h = clash h
  close_by Close a s e s' t h = (t, h)
  close_by Other a s e s' t h = clash h
  close_by Misspelt a s e s' t h = clash h

  pub levels_sound : (n : ℕ) → SoundIn (rules scope n) (levels scope n)
  unfolding levels
  levels_sound zero = record { bracket = λ s e s' r h. clash h; denying = λ s e s' r h. clash h }
  levels_sound (suc n) =
      let below = levels_sound n in
      record {
        bracket = λ s e s' r h.
            let bd = then_read (expression scope (levels scope n) (past s)) _ e s' h in
            let g = expression_sound (rules scope n) (levels scope n) below _ bd.0 bd.1 bd.2 in
            let c = close_by _ bd.0 bd.1 e s' refl bd.3 in
            let t = bd.1.rest in
            same (Atom scope (rules scope (suc n))) s bd.0 e _ s' c.1 (record {
              tokens = mark Marks.Open ∷ (g.tokens ++ (mark Marks.Close ∷ []));
              split = begins_with s.rest (mark Marks.Open) (open_here scope s.rest r) _ _ (begins_on _ _ _ g.tokens (mark Marks.Close ∷ []) g.split (begins_with t (mark Marks.Close) (close_here scope t c.0) (behind t) [] refl));
              holds = G.bracketed g.holds;
              nums = g.nums;
              used = g.used;
              few = g.few;
              room = g.room;
            });
        denying = λ s e s' r h.
            let sp = count_read s _ e s' h in
            let bd = then_read (factor scope (levels scope n) (counted s)) _ e s' sp.1 in
            let g = factor_sound (rules scope n) (levels scope n) below _ bd.0 bd.1 bd.2 in
            same (Factor scope (rules scope (suc n))) s (denial bd.0) e bd.1 s' bd.3 (record {
              tokens = word Words.Not ∷ g.tokens;
              split = begins_with s.rest (word Words.Not) (not_here scope s.rest r) _ _ g.split;
              holds = G.a_denial g.holds;
              nums = g.nums;
              used = simp length-append (omega (arith, g.used));
              few = g.few;
              room = g.room;
            });
      }

  pub read_sound : (n : ℕ) → SoundBy (expression scope (levels scope n)) (Expression scope (rules scope n))
  read_sound n = expression_sound (rules scope n) (levels scope n) (levels_sound n)

pub sound_reading : SoundReading
sound_reading scope n s e s' h =
    let g = read_sound scope n s e s' h in
    let p : s.operands + operands e ≤ max_operands = omega (arith, g.nums, g.few) in
    let q : s.items + length (items e) ≤ max_items = omega (arith, g.used, g.room) in
    (g.tokens, g.split, g.holds, (λ i. record { rest = s'.rest; operands = g.nums i; items = g.used i }), (p, q))
