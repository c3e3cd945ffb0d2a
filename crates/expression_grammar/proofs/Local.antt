-- The reading looks no further than the token where it stands. Assumes nothing.
use Rattle.std.proofs.Common.{◌≡◌, ℕ, zero, suc, ◌+◌, ◌≤◌, Bool, true, false, ltb, List, [], ◌∷◌, ◌++◌, Some, None, Option, sym, refl, ap, ◌∙◌, subst, arith}
use Rattle.lock_text.specs.Spelling.{Lexeme}
use Rattle.token_stream.specs.Streams.{Stream, token}
use Rattle.expression.specs.Tree.{Tree, number, variable, denial, joined, max_operands, max_items}
use Rattle.expression.specs.declared.Operator.{Operator}
use Rattle.expression_grammar.specs.Kinds.{Scope, sign, seen, place, behind, size}
use Rattle.expression_grammar.specs.Reading.{State, Outcome, refused, read, then, past, counted, count_if, count, joining, on_operator, operand_if, operand, Levels, more, chain, atom_at, atom, sum, tested, test, factor_at, factor, term, expression, closed_at, closed, levels}
use Rattle.expression_grammar.specs.Laws.{Begins, front, FirstFault}
use Rattle.expression_grammar.specs.declared.kind.Kind.{Kind}
use Rattle.expression_grammar.specs.declared.kind.Kind.TheVariants.{Number, Large, Variable, Unknown, Operator as Joins, Not, Open, Close, Other, Misspelt}
use Rattle.expression_grammar.proofs.Facts.{begins_on, begins_split, begins_size, begins_one, begins_with, same_front, same_kind, joining_tells, operator_here, not_here, open_here, close_here, number_here, variable_here}
use Rattle.expression_grammar.proofs.Complete.{complete_reading}

abbrev pub at : State → Stream → State
at s x = record { rest = x; operands = s.operands; items = s.items }

abbrev pub rest_of : Outcome → Stream
rest_of (refused n x) = x
rest_of (read e s) = s.rest

abbrev pub with_rest : Outcome → Stream → Outcome
with_rest (refused n x) q = refused n q
with_rest (read e s) q = read e (at s q)

-- f comes to o at s, and to the same in any other stream with the same tokens up to and through the one where it stops
pub record LocalTo (f : State → Outcome) (s : State) (o : Outcome) : Type 0 where
  pub before : List Lexeme
  pub split : Begins s.rest before (rest_of o)
  pub again : (x q : Stream) → Begins x before q → front q ≡ front (rest_of o) → f (at s x) ≡ with_rest o q

abbrev pub Local : (State → Outcome) → Type 0
Local f = (s : State) → LocalTo f s (f s)

local_refused : (n : ℕ) (s : State) → LocalTo (λ t. refused n t.rest) s (refused n s.rest)
local_refused n s = record { before = []; split = refl; again = λ x q b h. ap (refused n) b }

local_read : (e : Tree) (s : State) → LocalTo (λ t. read e t) s (read e s)
local_read e s = record { before = []; split = refl; again = λ x q b h. ap (λ y. read e (at s y)) b }

local_then : (f : State → Outcome) (k : Tree → State → Outcome) (s : State) (o : Outcome) → LocalTo f s o → ((e : Tree) (t : State) → LocalTo (k e) t (k e t)) → LocalTo (λ t. then (f t) k) s (then o k)
local_then f k s (refused n r) l kk = record { before = l.before; split = l.split; again = λ x q b h. ap (λ o. then o k) (l.again x q b h) }
local_then f k s (read e t) l kk =
    let m = kk e t in
    record {
      before = l.before ++ m.before;
      split = begins_on s.rest t.rest (rest_of (k e t)) l.before m.before l.split m.split;
      again = λ x q b h.
          let c = begins_split x q l.before m.before b in
          ap (λ o. then o k) (l.again x c.0 c.1 (same_front c.0 t.rest q (rest_of (k e t)) m.before c.2 m.split h)) ∙ m.again c.0 q c.2 h;
    }

-- past one token
local_past : (f : State → Outcome) (s : State) (l : Lexeme) (u : State) → s.rest ≡ token l (place s.rest) (behind s.rest) → u.rest ≡ behind s.rest → (o : Outcome) →
    LocalTo f u o → (g : State → Outcome) → ((x : Stream) → g (at s x) ≡ f (at u (behind x))) → LocalTo g s o
local_past f s l u r e o m g is = record {
  before = l ∷ m.before;
  split = begins_with s.rest l r (rest_of o) m.before (subst (λ (y : Stream). Begins y m.before (rest_of o)) e m.split);
  again = λ x q b h. is x ∙ m.again (behind x) q (begins_one x q l m.before b).1 h;
}

count_if_local : (b : Bool) (k : State → Outcome) (s : State) (l : Lexeme) → s.rest ≡ token l (place s.rest) (behind s.rest) → LocalTo k (counted s) (k (counted s)) → LocalTo (λ t. count_if b t k) s (count_if b s k)
count_if_local true k s l r m = local_past k s l (counted s) r refl _ m (λ t. count_if true t k) (λ x. refl)
count_if_local false k s l r m = local_refused 8 s

local_count : (k : State → Outcome) (s : State) (l : Lexeme) → s.rest ≡ token l (place s.rest) (behind s.rest) → LocalTo k (counted s) (k (counted s)) → LocalTo (λ t. count t k) s (count s k)
unfolding count
local_count k s l r m =
    let c = count_if_local (ltb s.items max_items) k s l r m in
    record { before = c.before; split = c.split; again = λ x q b h. c.again x q b h }

operand_if_local : (b : Bool) (s : State) (e : Tree) (l : Lexeme) → s.rest ≡ token l (place s.rest) (behind s.rest) → LocalTo (λ t. operand_if b t e) s (operand_if b s e)
operand_if_local true s e l r = local_count (λ t. read e (record { rest = t.rest; operands = t.operands + 1; items = t.items })) s l r (record { before = []; split = refl; again = λ x q b h. ap (λ y. read e (record { rest = y; operands = s.operands + 1; items = s.items + 1 })) b })
operand_if_local false s e l r = local_refused 8 s

local_operand : (s : State) (e : Tree) (l : Lexeme) → s.rest ≡ token l (place s.rest) (behind s.rest) → LocalTo (λ t. operand t e) s (operand s e)
unfolding operand
local_operand s e l r = let m = operand_if_local (ltb s.operands max_operands) s e l r in record { before = m.before; split = m.split; again = λ x q b h. m.again x q b h }

module _ (scope : Scope) where
  -- a choice by the kind of the token in front
  local_seen : (F : Kind → State → Outcome) (s : State) → LocalTo (F (seen scope s.rest)) s (F (seen scope s.rest) s) → LocalTo (λ t. F (seen scope t.rest) t) s (F (seen scope s.rest) s)
  local_seen F s l = record {
    before = l.before;
    split = l.split;
    again = λ x q b h. ap (λ c. F c (at s x)) (same_kind scope x s.rest (same_front x s.rest q _ l.before b l.split h)) ∙ l.again x q b h;
  }

  -- parts joined by operators

  module _ (k : ℕ) (one : State → Outcome) (ok : Local one) where
    record MoreTo (acc : Tree) (s : State) (o : Outcome) : Type 0 where
      before : List Lexeme
      split : Begins s.rest before (rest_of o)
      again : (x q : Stream) (g : ℕ) → Begins x before q → front q ≡ front (rest_of o) → size x ≤ g → more scope k one g acc (at s x) ≡ with_rest o q

    abbrev next : ℕ → Tree → Operator → State → Outcome
    next g acc o t = then (one t) (λ e u. more scope k one g (joined o acc e) u)

    stops : (f : ℕ) (e : Tree) (s : State) → joining k (seen scope s.rest) ≡ None → more scope k one f e s ≡ read e s
    unfolding more
    stops zero e s h = refl
    stops (suc f) e s h = ap (λ j. on_operator j (read e s) (λ o. count s (next f e o))) h

    turns : (g : ℕ) (acc : Tree) (s : State) (o : Operator) → joining k (seen scope s.rest) ≡ Some o → more scope k one (suc g) acc s ≡ count s (next g acc o)
    unfolding more
    turns g acc s o h = ap (λ j. on_operator j (read acc s) (λ o. count s (next g acc o))) h

    none_to : (acc : Tree) (s : State) → joining k (seen scope s.rest) ≡ None → MoreTo acc s (read acc s)
    none_to acc s j = record { before = []; split = refl; again = λ x q g b h l. stops g acc (at s x) (ap (joining k) (same_kind scope x s.rest (ap front b ∙ h)) ∙ j) ∙ ap (λ y. read acc (at s y)) b }

    -- where an operator stands, the stream has a token
    fuelled : (acc : Tree) (s : State) (o : Operator) (x : Stream) (out : Outcome) → joining k (seen scope x) ≡ Some o → ((g : ℕ) → size (behind x) ≤ g → more scope k one (suc g) acc (at s x) ≡ out) → (g : ℕ) → size x ≤ g → more scope k one g acc (at s x) ≡ out
    fuelled acc s o x out j f zero l = let z = ap size (operator_here scope x o (joining_tells k _ o j).0) in absurd (omega arith)
    fuelled acc s o x out j f (suc g) l = let z = ap size (operator_here scope x o (joining_tells k _ o j).0) in f g (omega arith)

    module _ (f : ℕ) (acc : Tree) (s : State) (o : Operator) (j : joining k (seen scope s.rest) ≡ Some o) (long : size s.rest ≤ suc f) (ih : (a : Tree) (t : State) → size t.rest ≤ f → MoreTo a t (more scope k one f a t)) where
      first : s.rest ≡ token (sign o) (place s.rest) (behind s.rest)
      first = operator_here scope s.rest o (joining_tells k _ o j).0

      -- the same operator stands in front of any stream with the same front
      there : (x : Stream) → front x ≡ front s.rest → joining k (seen scope x) ≡ Some o
      there x h = ap (joining k) (same_kind scope x s.rest h) ∙ j

      abbrev onward : Outcome → Outcome
      onward w = then w (λ e u. more scope k one f (joined o acc e) u)

      next_to : (w : Outcome) → LocalTo one (counted s) w → size (rest_of w) ≤ f → (p : List Lexeme) × Begins (behind s.rest) p (rest_of (onward w)) × ((x q : Stream) (g : ℕ) → Begins x p q → front q ≡ front (rest_of (onward w)) → size x ≤ g → next g acc o (at (counted s) x) ≡ with_rest (onward w) q)
      next_to (refused n r) l le = (l.before, l.split, λ x q g b h lg. ap (λ w. then w (λ e u. more scope k one g (joined o acc e) u)) (l.again x q b h))
      next_to (read e t) l le =
          let m = ih (joined o acc e) t le in (
            l.before ++ m.before,
            begins_on (behind s.rest) t.rest _ l.before m.before l.split m.split,
            λ x q g b h lg.
                let c = begins_split x q l.before m.before b in
                let short : size c.0 ≤ g = omega (arith, lg, begins_size x c.0 l.before c.1) in
                ap (λ w. then w (λ e u. more scope k one g (joined o acc e) u)) (l.again x c.0 c.1 (same_front c.0 t.rest q _ m.before c.2 m.split h)) ∙ m.again c.0 q g c.2 h short,
          )

      shorter : size (rest_of (one (counted s))) ≤ f
      shorter = omega (arith, long, ap size first, begins_size (behind s.rest) (rest_of (one (counted s))) (ok (counted s)).before (ok (counted s)).split)

      counted_to : (b : Bool) → ltb s.items max_items ≡ b → MoreTo acc s (count_if b s (next f acc o))
      unfolding count
      counted_to false b = record {
        before = [];
        split = refl;
        again = λ x q g bx h l.
            let here = there x (ap front bx ∙ h) in
            fuelled acc s o x _ here (λ g2 l2. turns g2 acc (at s x) o here ∙ ap (λ b. count_if b (at s x) (next g2 acc o)) b ∙ ap (refused 8) bx) g l;
      }
      counted_to true b =
          let n = next_to (one (counted s)) (ok (counted s)) shorter in
          record {
            before = sign o ∷ n.0;
            split = begins_with s.rest (sign o) first _ n.0 n.1;
            again = λ x q g bx h l.
                let c = begins_one x q (sign o) n.0 bx in
                let here = there x (c.0 ∙ sym (ap front first)) in
                fuelled acc s o x _ here (λ g2 l2. turns g2 acc (at s x) o here ∙ ap (λ b. count_if b (at s x) (next g2 acc o)) b ∙ n.2 (behind x) q g2 c.1 h l2) g l;
          }

      some_to : MoreTo acc s (more scope k one (suc f) acc s)
      unfolding count
      some_to = subst (λ (w : Outcome). MoreTo acc s w) (sym (turns f acc s o j)) (counted_to (ltb s.items max_items) refl)

    by_join : (f : ℕ) (acc : Tree) (s : State) → size s.rest ≤ suc f → ((a : Tree) (t : State) → size t.rest ≤ f → MoreTo a t (more scope k one f a t)) → (w : Option Operator) → joining k (seen scope s.rest) ≡ w → MoreTo acc s (more scope k one (suc f) acc s)
    by_join f acc s l ih None j = subst (λ (w : Outcome). MoreTo acc s w) (sym (stops (suc f) acc s j)) (none_to acc s j)
    by_join f acc s l ih (Some o) j = some_to f acc s o j l ih

    -- with no token left there is no operator
    ended : (s : State) → size s.rest ≤ 0 → (w : Option Operator) → joining k (seen scope s.rest) ≡ w → joining k (seen scope s.rest) ≡ None
    ended s l None j = j
    ended s l (Some o) j = let z = ap size (operator_here scope s.rest o (joining_tells k _ o j).0) in absurd (omega arith)

    more_local : (f : ℕ) (acc : Tree) (s : State) → size s.rest ≤ f → MoreTo acc s (more scope k one f acc s)
    more_local zero acc s l = let j = ended s l _ refl in subst (λ (w : Outcome). MoreTo acc s w) (sym (stops zero acc s j)) (none_to acc s j)
    more_local (suc f) acc s l = by_join f acc s l (λ a t l2. more_local f a t l2) (joining k (seen scope s.rest)) refl

    chain_local : Local (chain scope k one)
    unfolding chain
    chain_local s = local_then one (λ e t. more scope k one (size t.rest) e t) s (one s) (ok s) (λ e t.
        let m = more_local (size t.rest) e t (omega arith) in
        record { before = m.before; split = m.split; again = λ x q b h. m.again x q (size x) b h (omega arith) })

  -- atoms and factors

  record LocalIn (i : Levels) : Type 0 where
    bracket : (s : State) → seen scope s.rest ≡ Open → LocalTo i.bracket s (i.bracket s)
    denying : (s : State) → seen scope s.rest ≡ Not → LocalTo i.denying s (i.denying s)

  module _ (i : Levels) (ok : LocalIn i) where
    atom_by : (c : Kind) (s : State) → seen scope s.rest ≡ c → LocalTo (λ t. atom_at i t c) s (atom_at i s c)
    atom_by (Number n) s p = let w = number_here scope s.rest n p in local_operand s (number n) _ w.1
    atom_by Large s p = local_refused 4 s
    atom_by (Variable v) s p = let w = variable_here scope s.rest v p in local_operand s (variable v) _ w.1
    atom_by Unknown s p = local_refused 6 s
    atom_by (Joins o) s p = local_refused 3 s
    atom_by Not s p = local_refused 3 s
    atom_by Open s p = ok.bracket s p
    atom_by Close s p = local_refused 3 s
    atom_by Other s p = local_refused 3 s
    atom_by Misspelt s p = local_refused 2 s

    atom_local : Local (atom scope i)
    unfolding atom
    atom_local s = local_seen (λ c t. atom_at i t c) s (atom_by (seen scope s.rest) s refl)

    sum_local : Local (sum scope i)
    sum_local = chain_local 3 (atom scope i) atom_local

    tested_by : (a : Tree) (s : State) (w : Option Operator) → joining 2 (seen scope s.rest) ≡ w → LocalTo (λ t. on_operator w (read a t) (λ o. count t (λ u. then (sum scope i u) (λ b v. read (joined o a b) v)))) s (on_operator w (read a s) (λ o. count s (λ u. then (sum scope i u) (λ b v. read (joined o a b) v))))
    tested_by a s None j = local_read a s
    tested_by a s (Some o) j = local_count (λ u. then (sum scope i u) (λ b v. read (joined o a b) v)) s (sign o) (operator_here scope s.rest o (joining_tells 2 _ o j).0) (local_then (sum scope i) (λ b v. read (joined o a b) v) (counted s) _ (sum_local (counted s)) (λ b v. local_read (joined o a b) v))

    test_local : Local (test scope i)
    test_local s = local_then (sum scope i) (tested scope i) s _ (sum_local s) (λ a t. local_seen (λ c y. on_operator (joining 2 c) (read a y) (λ o. count y (λ u. then (sum scope i u) (λ b v. read (joined o a b) v)))) t (tested_by a t (joining 2 (seen scope t.rest)) refl))

    factor_by : (c : Kind) (s : State) → seen scope s.rest ≡ c → LocalTo (λ t. factor_at scope i t c) s (factor_at scope i s c)
    factor_by (Number n) s p = test_local s
    factor_by Large s p = test_local s
    factor_by (Variable v) s p = test_local s
    factor_by Unknown s p = test_local s
    factor_by (Joins o) s p = test_local s
    factor_by Not s p = ok.denying s p
    factor_by Open s p = test_local s
    factor_by Close s p = test_local s
    factor_by Other s p = test_local s
    factor_by Misspelt s p = test_local s

    factor_local : Local (factor scope i)
    unfolding factor
    factor_local s = local_seen (λ c t. factor_at scope i t c) s (factor_by (seen scope s.rest) s refl)

    expression_local : Local (expression scope i)
    expression_local = chain_local 0 (term scope i) (chain_local 1 (factor scope i) factor_local)

  close_by : (c : Kind) (e : Tree) (s : State) → seen scope s.rest ≡ c → LocalTo (λ t. closed_at e t c) s (closed_at e s c)
  close_by (Number n) e s p = local_refused 3 s
  close_by Large e s p = local_refused 3 s
  close_by (Variable v) e s p = local_refused 3 s
  close_by Unknown e s p = local_refused 3 s
  close_by (Joins o) e s p = local_refused 3 s
  close_by Not e s p = local_refused 3 s
  close_by Open e s p = local_refused 3 s
  close_by Close e s p = local_past (λ t. read e t) s _ (past s) (close_here scope s.rest p) refl _ (local_read e (past s)) (λ t. closed_at e t Close) (λ x. refl)
  close_by Other e s p = local_refused 3 s
  close_by Misspelt e s p = local_refused 2 s

  levels_local : (n : ℕ) → LocalIn (levels scope n)
  unfolding levels
  levels_local zero = record { bracket = λ s r. local_refused 8 s; denying = λ s r. local_refused 8 s }
  levels_local (suc n) =
      let below = levels_local n in
      record {
        bracket = λ s r.
            let m = local_then (expression scope (levels scope n)) (closed scope) (past s) _ (expression_local (levels scope n) below (past s)) (λ e t. local_seen (λ c y. closed_at e y c) t (close_by (seen scope t.rest) e t refl)) in
            local_past (λ t. then (expression scope (levels scope n) t) (closed scope)) s _ (past s) (open_here scope s.rest r) refl _ m (levels scope (suc n)).bracket (λ x. refl);
        denying = λ s r.
            local_count (λ t. then (factor scope (levels scope n) t) (λ e u. read (denial e) u)) s _ (not_here scope s.rest r) (local_then (factor scope (levels scope n)) (λ e u. read (denial e) u) (counted s) _ (factor_local (levels scope n) below (counted s)) (λ e u. local_read (denial e) u));
      }

  pub read_local : (n : ℕ) → Local (expression scope (levels scope n))
  read_local n = expression_local (levels scope n) (levels_local n)

pub first_fault : FirstFault
first_fault scope n s m r no_read =
    let l = subst (λ (o : Outcome). LocalTo (expression scope (levels scope n)) s o) no_read (read_local scope n s) in (
      l.before,
      l.split,
      λ x q e ls y b h d by st fits.
          let yes-read = complete_reading scope n (at s x) e ls y d by st fits in
          let refusal = l.again x q b h in
          let z : ◌≡◌ {A = ℕ} 0 1 = cc in
          omega arith,
    )
