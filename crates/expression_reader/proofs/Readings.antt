-- What the steps of the code come to in the reading. Assumes nothing.
use Rattle.std.proofs.Common.{◌≡◌, ℕ, zero, suc, ◌+◌, ◌-◌, ◌<◌, ◌≤◌, List, [], ◌∷◌, ◌++◌, length, get_or, take, IsErrAnd, Some, None, Ok, Err, Result, sym, refl, ap, ◌∙◌, subst, append_assoc, arith, le-ltb, lt-ltb}
use Rattle.std.proofs.lemmas.Result.{err_from_is_err_and}
use Rattle.lock_text.specs.Refusals.{refusal_number, refusal_index}
use Rattle.lock_text.specs.declared.refusal.TextRefusal.{TextRefusal}
use Rattle.lock_text.specs.declared.refusal.TextRefusal.TheVariants.{PastLimit, OutOfRange, Unknown as UnknownName}
use Rattle.expression.specs.Tree.{Tree, number, variable, denial, joined, items, max_operands, max_items}
use Rattle.expression.specs.declared.Operator.{Operator}
use Rattle.expression.specs.declared.Item.{Item}
use Rattle.expression.specs.declared.Item.TheVariants as Items
use Rattle.expression_grammar.specs.Kinds.{Scope, seen, place, behind, size}
use Rattle.expression_grammar.specs.Reading.{State, Outcome, refused, read, then, past, count_if, count, joining, on_operator, unwanted, operand_if, operand, Levels, more, chain, atom_at, atom, sum, tested, test, factor_at, factor, expression, closed_at, closed, levels}
use Rattle.expression_grammar.specs.declared.kind.Kind.{Kind}
use Rattle.expression_grammar.specs.declared.kind.Kind.TheVariants.{Number, Large, Variable, Unknown, Operator as Joins, Not, Open, Close, Other, Misspelt}
use Rattle.expression_grammar.proofs.Facts.{OfToken, stands, joining_tells}
use Rattle.expression_reader.specs.Ahead.{ahead, Looked, TokenAhead}
use Rattle.expression_reader.specs.State.{held, state, Took, Refused, Reads, UnwantedAt, Passed, Counted, Pushed, lone, OperandRead, Closes}
use Rattle.lock_text.specs.declared.token.Placed.{Placed}
use Rattle.expression_reader.specs.declared.reader.Reader.{Reader}

-- refusals

pub refused_by : {o o' : Outcome} {f : TextRefusal} → o' ≡ o → Refused o f → Refused o' f
refused_by e h = record { rest = h.rest; is = e ∙ h.is; index = h.index }

-- a refusal passes through what follows
pub refused_on : {o : Outcome} {f : TextRefusal} (k : Tree → State → Outcome) → Refused o f → Refused (then o k) f
refused_on k h = record { rest = h.rest; is = ap (λ x. then x k) h.is; index = h.index }

pub took_by : {t : List ℕ} {r r' : Reader} {o o' : Outcome} → o' ≡ o → Took t r o r' → Took t r o' r'
took_by e h = record { tree = h.tree; is = e ∙ h.is; wrote = h.wrote; beyond = h.beyond; within = h.within; fewer = h.fewer; even = h.even; longer = h.longer }

pub reads_by : {U : Type 0} (t : List ℕ) (r r' : Reader) (o o' : Outcome) (res : Result U TextRefusal) → o' ≡ o → Reads t r o res r' → Reads t r o' res r'
reads_by t r r' o o' (Ok u) e h = took_by e h
reads_by t r r' o o' (Err f) e h = refused_by e h

-- the exit of a `?`
pub exit : {U : Type 0} (t : List ℕ) (r r' : Reader) (o : Outcome) (res : Result U TextRefusal) (f : TextRefusal) → IsErrAnd res (λ y. y ≡ f) → Refused o f → Reads t r o res r'
exit t r r' o res f e h = let p = err_from_is_err_and res e in rw (p.1, p.2) h

-- what stands ahead

module _ (scope : Scope) (t : List ℕ) (a : ℕ) (v : Placed Kind) (look : Looked scope t a v) where
  -- the refusal with a number, here
  pub refused_here : (n : ℕ) (o : Outcome) (f : TextRefusal) → o ≡ refused n (ahead t a) → refusal_number f ≡ n → refusal_index f ≡ v.start → Refused o f
  refused_here n o f e p q = record { rest = ahead t a; is = e ∙ ap (λ m. refused m (ahead t a)) (sym p); index = q ∙ look.start }

  pub token_ahead : OfToken v.token → TokenAhead t a
  token_ahead h =
      let p = stands scope (ahead t a) v.token (sym look.kind) h in
      (p.0, place (ahead t a), behind (ahead t a), p.1)

  pub step_over : TokenAhead t a → (behind (ahead t a) ≡ ahead t v.end) × (size (ahead t a) ≡ size (ahead t v.end) + 1) × (v.end ≤ length t)
  step_over (l, s, x, e) = let p = look.past l s x e in (ap behind e ∙ p.1, ap size e ∙ ap (λ y. size y + 1) p.1, p.0)

pub of_kind : (v : Placed Kind) (c : Kind) → v.token ≡ c → OfToken c → OfToken v.token
of_kind v c h k = subst OfToken (sym h) k

pub of_operator : (v : Placed Kind) (k : ℕ) (o : Operator) → joining k v.token ≡ Some o → OfToken v.token
of_operator v k o h = of_kind v (Joins o) (joining_tells k v.token o h).0 tt

pub same_state : (t : List ℕ) (r r1 : Reader) → r1.at ≡ r.at → r1.operands ≡ r.operands → r1.counted ≡ r.counted → state t r ≡ state t r1
same_state t r r1 p q s = λ i. record { rest = ahead t (sym p i); operands = sym q i; items = sym s i }

module _ (scope : Scope) (t : List ℕ) (r : Reader) (v : Placed Kind) (look : Looked scope t r.at v) where
  -- one more item
  pub count_on : (r1 : Reader) (k : State → Outcome) → TokenAhead t r.at → Counted r v.end r1 → count (state t r) k ≡ k (state t r1)
  unfolding count
  count_on r1 k tok c =
      ap (λ b. count_if b (state t r) k) (lt-ltb _ max_items c.room) ∙ ap k (λ i. record { rest = ((step_over scope t r.at v look tok).0 ∙ ap (ahead t) (sym c.at)) i; operands = sym c.operands i; items = sym c.counted i })

  pub count_full : (f : TextRefusal) (k : State → Outcome) → (f ≡ PastLimit v.start) × (max_items ≤ r.counted) → Refused (count (state t r) k) f
  unfolding count
  count_full f k (e, full) = refused_here scope t r.at v look 8 _ f (ap (λ b. count_if b (state t r) k) (le-ltb _ max_items full)) (ap refusal_number e) (ap refusal_index e)

  pub past_is : (r1 : Reader) → TokenAhead t r.at → Passed r v.end r1 → past (state t r) ≡ state t r1
  past_is r1 tok p = λ i. record { rest = ((step_over scope t r.at v look tok).0 ∙ ap (ahead t) (sym p.at)) i; operands = sym p.operands i; items = sym p.counted i }

-- parts joined by operators

-- the loop stands at r, with the tree so far after the items h
pub record Midway (scope : Scope) (t : List ℕ) (k : ℕ) (one : State → Outcome) (h : List Item) (o : Outcome) (r : Reader) : Type 0 where
  pub tree : Tree
  pub fuel : ℕ
  pub enough : size (ahead t r.at) ≤ fuel
  pub is : o ≡ more scope k one fuel tree (state t r)
  pub wrote : held r ≡ h ++ items tree

-- the loop began at r0 and stands at r
pub record Going (scope : Scope) (t : List ℕ) (k : ℕ) (one : State → Outcome) (r0 r : Reader) : Type 0 where
  pub within : r.at ≤ length t
  pub fewer : size (ahead t r.at) ≤ size (ahead t r0.at)
  pub even : r.written + r0.counted ≡ r0.written + r.counted
  pub longer : r0.written ≤ r.written
  pub beyond : (i : ℕ) (d : Item) → r.written ≤ i → get_or r.items i d ≡ get_or r0.items i d
  pub midway : (h : List Item) (acc : Tree) → held r0 ≡ h ++ items acc → Midway scope t k one h (more scope k one (size (ahead t r0.at)) acc (state t r0)) r

-- what a count changes of the stream, and what it leaves
pub counted_over : (scope : Scope) (t : List ℕ) (r r1 : Reader) (v : Placed Kind) → Looked scope t r.at v → TokenAhead t r.at → Counted r v.end r1 → (size (ahead t r.at) ≡ size (ahead t r1.at) + 1) × (r1.at ≤ length t)
counted_over scope t r r1 v look tok c =
    let p = step_over scope t r.at v look tok in
    (p.1 ∙ ap (λ a. size (ahead t a) + 1) (sym c.at), subst (λ (a : ℕ). a ≤ length t) (sym c.at) p.2)

pub passed_over : (scope : Scope) (t : List ℕ) (r r1 : Reader) (v : Placed Kind) → Looked scope t r.at v → TokenAhead t r.at → Passed r v.end r1 → (size (ahead t r.at) ≡ size (ahead t r1.at) + 1) × (r1.at ≤ length t)
passed_over scope t r r1 v look tok c =
    let p = step_over scope t r.at v look tok in
    (p.1 ∙ ap (λ a. size (ahead t a) + 1) (sym c.at), subst (λ (a : ℕ). a ≤ length t) (sym c.at) p.2)

pushed_size : (t : List ℕ) (r r1 : Reader) (x : Item) → Pushed r x r1 → size (ahead t r1.at) ≡ size (ahead t r.at)
pushed_size t r r1 x p = ap (λ a. size (ahead t a)) p.at

module _ (scope : Scope) (t : List ℕ) (k : ℕ) (one : State → Outcome) (r : Reader) (v : Placed Kind) (op : Operator) (look : Looked scope t r.at v) (join : joining k v.token ≡ Some op) where
  tok : TokenAhead t r.at
  tok = token_ahead scope t r.at v look (of_operator v k op join)

  joins_here : joining k (seen scope (ahead t r.at)) ≡ Some op
  joins_here = ap (joining k) (sym look.kind) ∙ join

  -- what the loop's next turn reads
  more_on : (fuel : ℕ) (acc : Tree) → size (ahead t r.at) ≤ fuel → (f : ℕ) × (fuel ≡ suc f) × (more scope k one fuel acc (state t r) ≡ count (state t r) (λ s. then (one s) (λ e u. more scope k one f (joined op acc e) u)))
  unfolding more
  more_on zero acc h = let l = (step_over scope t r.at v look tok).1 in absurd (omega arith)
  more_on (suc f) acc h = (f, refl, ap (λ j. on_operator j (read acc (state t r)) (λ o. count (state t r) (λ s. then (one s) (λ e u. more scope k one f (joined o acc e) u)))) joins_here)

  pub going_more : (r0 r1 r2 r3 : Reader) → Going scope t k one r0 r → Counted r v.end r1 → Took t r1 (one (state t r1)) r2 → Pushed r2 (Items.Operator op) r3 → Going scope t k one r0 r3
  going_more r0 r1 r2 r3 g c b p =
      let over = counted_over scope t r r1 v look tok c in
      let pushed = pushed_size t r2 r3 _ p in
      record {
        within = omega (arith, p.at, b.within);
        fewer = omega (arith, over.0, b.fewer, g.fewer);
        even = omega (arith, p.written, p.counted, c.written, c.counted, b.even, g.even);
        longer = omega (arith, p.written, c.written, b.longer, g.longer);
        beyond = λ i d h. p.beyond i d h ∙ b.beyond i d (omega (arith, p.written)) ∙ ap (λ l. get_or l i d) c.items ∙ g.beyond i d (omega (arith, p.written, c.written, b.longer));
        midway = λ h acc e.
            let m = g.midway h acc e in
            let q = more_on m.fuel m.tree m.enough in
            record {
              tree = joined op m.tree b.tree;
              fuel = q.0;
              enough = omega (arith, over.0, b.fewer, m.enough, q.1);
              is = m.is ∙ q.2 ∙ count_on scope t r v look r1 _ tok c ∙ ap (λ o. then o (λ e u. more scope k one q.0 (joined op m.tree e) u)) b.is ∙ ap (more scope k one q.0 (joined op m.tree b.tree)) (same_state t r2 r3 p.at p.operands p.counted);
              wrote = p.wrote ∙ ap (λ l. l ++ (Items.Operator op ∷ [])) (b.wrote ∙ ap (λ l. l ++ items b.tree) ((λ i. take (c.written i) (c.items i)) ∙ m.wrote)) ∙ append_assoc (h ++ items m.tree) (items b.tree) (Items.Operator op ∷ []) ∙ append_assoc h (items m.tree) (items b.tree ++ (Items.Operator op ∷ []));
            };
      }

  module _ (ra r0 : Reader) (first : Took t ra (one (state t ra)) r0) (g : Going scope t k one r0 r) where
    upto : (f : ℕ) × (acc : Tree) × (chain scope k one (state t ra) ≡ count (state t r) (λ s. then (one s) (λ e u. more scope k one f (joined op acc e) u)))
    unfolding chain
    upto =
        let m = g.midway (held ra) first.tree first.wrote in
        let q = more_on m.fuel m.tree m.enough in
        (q.0, m.tree, ap (λ o. then o (λ e s. more scope k one (size s.rest) e s)) first.is ∙ m.is ∙ q.2)

    pub going_full : (f : TextRefusal) → (f ≡ PastLimit v.start) × (max_items ≤ r.counted) → Refused (chain scope k one (state t ra)) f
    going_full f fl = refused_by upto.2 (count_full scope t r v look f _ fl)

    pub going_refused : (r1 : Reader) (f : TextRefusal) → Counted r v.end r1 → Refused (one (state t r1)) f → Refused (chain scope k one (state t ra)) f
    going_refused r1 f c h = refused_by (upto.2 ∙ count_on scope t r v look r1 _ tok c) (refused_on _ h)

pub first_refused : (scope : Scope) (k : ℕ) (one : State → Outcome) (s : State) (f : TextRefusal) → Refused (one s) f → Refused (chain scope k one s) f
unfolding chain
first_refused scope k one s f h = refused_on _ h

more_stop : (scope : Scope) (t : List ℕ) (k : ℕ) (one : State → Outcome) (r : Reader) (fuel : ℕ) (acc : Tree) → joining k (seen scope (ahead t r.at)) ≡ None → more scope k one fuel acc (state t r) ≡ read acc (state t r)
unfolding more
more_stop scope t k one r zero acc h = refl
more_stop scope t k one r (suc f) acc h = ap (λ j. on_operator j (read acc (state t r)) (λ o. count (state t r) (λ s. then (one s) (λ e u. more scope k one f (joined o acc e) u)))) h

pub going_done : (scope : Scope) (t : List ℕ) (k : ℕ) (one : State → Outcome) (ra r0 r : Reader) → Took t ra (one (state t ra)) r0 → Going scope t k one r0 r → joining k (seen scope (ahead t r.at)) ≡ None → Took t ra (chain scope k one (state t ra)) r
unfolding chain
going_done scope t k one ra r0 r first g h =
    let m = g.midway (held ra) first.tree first.wrote in
    record {
      tree = m.tree;
      is = ap (λ o. then o (λ e s. more scope k one (size s.rest) e s)) first.is ∙ m.is ∙ more_stop scope t k one r m.fuel m.tree h;
      wrote = m.wrote;
      beyond = λ i d l. g.beyond i d l ∙ first.beyond i d (omega (arith, g.longer));
      within = g.within;
      fewer = omega (arith, first.fewer, g.fewer);
      even = omega (arith, first.even, g.even);
      longer = omega (arith, first.longer, g.longer);
    }

-- a number or a variable

lone_items : (x : Item) (e : Tree) → lone x ≡ Some e → items e ≡ x ∷ []
lone_items (Items.Number n) e h = let q : number n ≡ e = cc in rw (← q) refl
lone_items (Items.Variable n) e h = let q : variable n ≡ e = cc in rw (← q) refl
lone_items Items.Not e h = let z : ◌≡◌ {A = ℕ} 0 1 = cc in absurd (omega arith)
lone_items (Items.Operator o) e h = let z : ◌≡◌ {A = ℕ} 0 1 = cc in absurd (omega arith)

module _ (scope : Scope) (t : List ℕ) (r : Reader) (v : Placed Kind) (look : Looked scope t r.at v) (e : Tree) where
  pub operand_many : max_operands ≤ r.operands → Refused (operand (state t r) e) (PastLimit v.start)
  unfolding operand
  operand_many h = refused_here scope t r.at v look 8 _ _ (ap (λ b. operand_if b (state t r) e) (le-ltb _ max_operands h)) refl refl

  pub operand_full : (f : TextRefusal) → r.operands < max_operands → (f ≡ PastLimit v.start) × (max_items ≤ r.counted) → Refused (operand (state t r) e) f
  unfolding operand
  operand_full f h fl = refused_by (ap (λ b. operand_if b (state t r) e) (lt-ltb _ max_operands h)) (count_full scope t r v look f _ fl)

  pub operand_took : (r1 r2 r3 : Reader) (x : Item) → lone x ≡ Some e → TokenAhead t r.at → r.operands < max_operands → Counted r v.end r1 → r2.at ≡ r1.at → r2.operands ≡ r1.operands + 1 → r2.counted ≡ r1.counted → r2.written ≡ r1.written → r2.items ≡ r1.items → Pushed r2 x r3 → Took t r (operand (state t r) e) r3
  unfolding operand
  operand_took r1 r2 r3 x lx tk h c a n u ln it p =
      let over = counted_over scope t r r1 v look tk c in
      let same : size (ahead t r3.at) ≡ size (ahead t r1.at) = ap (λ b. size (ahead t b)) (p.at ∙ a) in
      record {
        tree = e;
        is = ap (λ b. operand_if b (state t r) e) (lt-ltb _ max_operands h) ∙ count_on scope t r v look r1 _ tk c ∙ ap (read e) (λ i. record { rest = ahead t (sym (p.at ∙ a) i); operands = sym (p.operands ∙ n) i; items = sym (p.counted ∙ u) i });
        wrote = p.wrote ∙ (λ i. take ((ln ∙ c.written) i) ((it ∙ c.items) i) ++ sym (lone_items x e lx) i);
        beyond = λ i d l. p.beyond i d l ∙ ap (λ y. get_or y i d) (it ∙ c.items);
        within = omega (arith, p.at, a, over.1);
        fewer = omega (arith, over.0);
        even = omega (arith, p.written, ln, c.written, p.counted, u, c.counted);
        longer = omega (arith, p.written, ln, c.written);
      }

-- factors

module _ (scope : Scope) (i : Levels) (t : List ℕ) (r : Reader) (v : Placed Kind) (look : Looked scope t r.at v) where
  factor_is : (c : Kind) → v.token ≡ c → factor scope i (state t r) ≡ factor_at scope i (state t r) c
  unfolding factor
  factor_is c h = ap (factor_at scope i (state t r)) (sym look.kind ∙ h)

  pub atom_is : (c : Kind) → v.token ≡ c → atom scope i (state t r) ≡ atom_at i (state t r) c
  unfolding atom
  atom_is c h = ap (atom_at i (state t r)) (sym look.kind ∙ h)

factor_plain : (scope : Scope) (i : Levels) (s : State) (c : Kind) → (c ≡ Not → ⊥) → factor_at scope i s c ≡ test scope i s
factor_plain scope i s (Number n) h = refl
factor_plain scope i s Large h = refl
factor_plain scope i s (Variable n) h = refl
factor_plain scope i s Unknown h = refl
factor_plain scope i s (Joins o) h = refl
factor_plain scope i s Not h = absurd (h refl)
factor_plain scope i s Open h = refl
factor_plain scope i s Close h = refl
factor_plain scope i s Other h = refl
factor_plain scope i s Misspelt h = refl

denying_open : (scope : Scope) (n : ℕ) (s : State) → (n ≡ 0 → ⊥) → (levels scope n).denying s ≡ count s (λ u. then (factor scope (levels scope (n - 1)) u) (λ e w. read (denial e) w))
unfolding levels
denying_open scope zero s h = absurd (h refl)
denying_open scope (suc n) s h = let q : n ≡ suc n - 1 = omega arith in ap (λ m. count s (λ u. then (factor scope (levels scope m) u) (λ e w. read (denial e) w))) q

denying_shut : (scope : Scope) (n : ℕ) (s : State) → n ≡ 0 → (levels scope n).denying s ≡ refused 8 s.rest
unfolding levels
denying_shut scope n s h = ap (λ m. (levels scope m).denying s) h

module _ (scope : Scope) (t : List ℕ) (r : Reader) (n : ℕ) (v : Placed Kind) (look : Looked scope t r.at v) (is-not : v.token ≡ Not) where
  not_ahead : TokenAhead t r.at
  not_ahead = token_ahead scope t r.at v look (of_kind v Not is-not tt)

  pub not_shut : n ≡ 0 → Refused (factor scope (levels scope n) (state t r)) (PastLimit v.start)
  not_shut h = refused_here scope t r.at v look 8 _ _ (factor_is scope (levels scope n) t r v look Not is-not ∙ denying_shut scope n _ h) refl refl

  module _ (some : n ≡ 0 → ⊥) where
    not_is : factor scope (levels scope n) (state t r) ≡ count (state t r) (λ u. then (factor scope (levels scope (n - 1)) u) (λ e w. read (denial e) w))
    not_is = factor_is scope (levels scope n) t r v look Not is-not ∙ denying_open scope n _ some

    pub not_full : (f : TextRefusal) → (f ≡ PastLimit v.start) × (max_items ≤ r.counted) → Refused (factor scope (levels scope n) (state t r)) f
    not_full f fl = refused_by not_is (count_full scope t r v look f _ fl)

    pub not_refused : (r1 : Reader) (f : TextRefusal) → Counted r v.end r1 → Refused (factor scope (levels scope (n - 1)) (state t r1)) f → Refused (factor scope (levels scope n) (state t r)) f
    not_refused r1 f c h = refused_by (not_is ∙ count_on scope t r v look r1 _ not_ahead c) (refused_on _ h)

    pub not_took : (r1 r2 r3 : Reader) → Counted r v.end r1 → Took t r1 (factor scope (levels scope (n - 1)) (state t r1)) r2 → Pushed r2 Items.Not r3 → Took t r (factor scope (levels scope n) (state t r)) r3
    not_took r1 r2 r3 c b p =
        let over = counted_over scope t r r1 v look not_ahead c in
        let pushed = pushed_size t r2 r3 _ p in
        record {
          tree = denial b.tree;
          is = not_is ∙ count_on scope t r v look r1 _ not_ahead c ∙ ap (λ o. then o (λ e w. read (denial e) w)) b.is ∙ ap (read (denial b.tree)) (same_state t r2 r3 p.at p.operands p.counted);
          wrote = p.wrote ∙ ap (λ l. l ++ (Items.Not ∷ [])) (b.wrote ∙ ap (λ l. l ++ items b.tree) (λ i. take (c.written i) (c.items i))) ∙ append_assoc (held r) (items b.tree) (Items.Not ∷ []);
          beyond = λ i d l. p.beyond i d l ∙ b.beyond i d (omega (arith, p.written)) ∙ ap (λ y. get_or y i d) c.items;
          within = omega (arith, p.at, b.within);
          fewer = omega (arith, over.0, b.fewer);
          even = omega (arith, p.written, p.counted, c.written, c.counted, b.even);
          longer = omega (arith, p.written, c.written, b.longer);
        }

-- two parts and their operator
joined_took : (scope : Scope) (t : List ℕ) (v : Placed Kind) (o1 o2 o : Outcome) (op : Operator) (r r1 r2 r3 r4 : Reader) (a : Took t r o1 r1) → Looked scope t r1.at v → TokenAhead t r1.at → Counted r1 v.end r2 → (b : Took t r2 o2 r3) → Pushed r3 (Items.Operator op) r4 → o ≡ read (joined op a.tree b.tree) (state t r3) → Took t r o r4
joined_took scope t v o1 o2 o op r r1 r2 r3 r4 a look tk c b p e =
    let over = counted_over scope t r1 r2 v look tk c in
    let pushed = pushed_size t r3 r4 _ p in
    record {
      tree = joined op a.tree b.tree;
      is = e ∙ ap (read (joined op a.tree b.tree)) (same_state t r3 r4 p.at p.operands p.counted);
      wrote = p.wrote ∙ ap (λ l. l ++ (Items.Operator op ∷ [])) (b.wrote ∙ ap (λ l. l ++ items b.tree) ((λ i. take (c.written i) (c.items i)) ∙ a.wrote)) ∙ append_assoc (held r ++ items a.tree) (items b.tree) (Items.Operator op ∷ []) ∙ append_assoc (held r) (items a.tree) (items b.tree ++ (Items.Operator op ∷ []));
      beyond = λ i d l. p.beyond i d l ∙ b.beyond i d (omega (arith, p.written)) ∙ ap (λ y. get_or y i d) c.items ∙ a.beyond i d (omega (arith, p.written, c.written, b.longer));
      within = omega (arith, p.at, b.within);
      fewer = omega (arith, over.0, b.fewer, a.fewer);
      even = omega (arith, p.written, p.counted, c.written, c.counted, b.even, a.even);
      longer = omega (arith, p.written, c.written, b.longer, a.longer);
    }

module _ (scope : Scope) (t : List ℕ) (r : Reader) (i : Levels) (v : Placed Kind) (look : Looked scope t r.at v) (other : v.token ≡ Not → ⊥) where
  test_is : factor scope i (state t r) ≡ test scope i (state t r)
  test_is = factor_is scope i t r v look v.token refl ∙ factor_plain scope i _ v.token other

  pub plain_refused : (f : TextRefusal) → Refused (sum scope i (state t r)) f → Refused (factor scope i (state t r)) f
  plain_refused f h = refused_by test_is (refused_on _ h)

  module _ (r1 : Reader) (first : Took t r (sum scope i (state t r)) r1) where
    tested_is : factor scope i (state t r) ≡ tested scope i first.tree (state t r1)
    tested_is = test_is ∙ ap (λ o. then o (tested scope i)) first.is

    pub plain_took : joining 2 (seen scope (ahead t r1.at)) ≡ None → Took t r (factor scope i (state t r)) r1
    plain_took h = record {
      tree = first.tree;
      is = tested_is ∙ ap (λ j. on_operator j (read first.tree (state t r1)) (λ o. count (state t r1) (λ u. then (sum scope i u) (λ b w. read (joined o first.tree b) w)))) h;
      wrote = first.wrote;
      beyond = first.beyond;
      within = first.within;
      fewer = first.fewer;
      even = first.even;
      longer = first.longer;
    }

    module _ (u : Placed Kind) (sign : Looked scope t r1.at u) (op : Operator) (join : joining 2 u.token ≡ Some op) where
      sign_ahead : TokenAhead t r1.at
      sign_ahead = token_ahead scope t r1.at u sign (of_operator u 2 op join)

      joined_is : factor scope i (state t r) ≡ count (state t r1) (λ s. then (sum scope i s) (λ b w. read (joined op first.tree b) w))
      joined_is = tested_is ∙ ap (λ j. on_operator j (read first.tree (state t r1)) (λ o. count (state t r1) (λ s. then (sum scope i s) (λ b w. read (joined o first.tree b) w)))) (ap (joining 2) (sym sign.kind) ∙ join)

      pub test_full : (f : TextRefusal) → (f ≡ PastLimit u.start) × (max_items ≤ r1.counted) → Refused (factor scope i (state t r)) f
      test_full f fl = refused_by joined_is (count_full scope t r1 u sign f _ fl)

      pub test_refused : (r2 : Reader) (f : TextRefusal) → Counted r1 u.end r2 → Refused (sum scope i (state t r2)) f → Refused (factor scope i (state t r)) f
      test_refused r2 f c h = refused_by (joined_is ∙ count_on scope t r1 u sign r2 _ sign_ahead c) (refused_on _ h)

      pub test_took : (r2 r3 r4 : Reader) → Counted r1 u.end r2 → Took t r2 (sum scope i (state t r2)) r3 → Pushed r3 (Items.Operator op) r4 → Took t r (factor scope i (state t r)) r4
      test_took r2 r3 r4 c b p = joined_took scope t u _ _ _ op r r1 r2 r3 r4 first sign sign_ahead c b p (joined_is ∙ count_on scope t r1 u sign r2 _ sign_ahead c ∙ ap (λ o. then o (λ b w. read (joined op first.tree b) w)) b.is)

-- atoms

atom_unwanted : (i : Levels) (s : State) (c : Kind) → ((n : ℕ) → c ≡ Number n → ⊥) → (c ≡ Large → ⊥) → ((n : ℕ) → c ≡ Variable n → ⊥) → (c ≡ Unknown → ⊥) → (c ≡ Open → ⊥) → atom_at i s c ≡ refused (unwanted c) s.rest
atom_unwanted i s (Number n) h1 h2 h3 h4 h5 = absurd (h1 n refl)
atom_unwanted i s Large h1 h2 h3 h4 h5 = absurd (h2 refl)
atom_unwanted i s (Variable n) h1 h2 h3 h4 h5 = absurd (h3 n refl)
atom_unwanted i s Unknown h1 h2 h3 h4 h5 = absurd (h4 refl)
atom_unwanted i s (Joins o) h1 h2 h3 h4 h5 = refl
atom_unwanted i s Not h1 h2 h3 h4 h5 = refl
atom_unwanted i s Open h1 h2 h3 h4 h5 = absurd (h5 refl)
atom_unwanted i s Close h1 h2 h3 h4 h5 = refl
atom_unwanted i s Other h1 h2 h3 h4 h5 = refl
atom_unwanted i s Misspelt h1 h2 h3 h4 h5 = refl

bracket_open : (scope : Scope) (n : ℕ) (s : State) → (n ≡ 0 → ⊥) → (levels scope n).bracket s ≡ then (expression scope (levels scope (n - 1)) (past s)) (closed scope)
unfolding levels
bracket_open scope zero s h = absurd (h refl)
bracket_open scope (suc n) s h = let q : n ≡ suc n - 1 = omega arith in ap (λ m. then (expression scope (levels scope m) (past s)) (closed scope)) q

bracket_shut : (scope : Scope) (n : ℕ) (s : State) → n ≡ 0 → (levels scope n).bracket s ≡ refused 8 s.rest
unfolding levels
bracket_shut scope n s h = ap (λ m. (levels scope m).bracket s) h

module _ (scope : Scope) (t : List ℕ) (r : Reader) (n : ℕ) (v : Placed Kind) (look : Looked scope t r.at v) where
  pub wrong_refused : (f : TextRefusal) → ((m : ℕ) → v.token ≡ Number m → ⊥) → (v.token ≡ Large → ⊥) → ((m : ℕ) → v.token ≡ Variable m → ⊥) → (v.token ≡ Unknown → ⊥) → (v.token ≡ Open → ⊥) → UnwantedAt v f → Refused (atom scope (levels scope n) (state t r)) f
  wrong_refused f h1 h2 h3 h4 h5 w = refused_here scope t r.at v look (unwanted v.token) _ f (atom_is scope (levels scope n) t r v look v.token refl ∙ atom_unwanted (levels scope n) _ v.token h1 h2 h3 h4 h5) w.number w.index

  pub large_refused : v.token ≡ Large → Refused (atom scope (levels scope n) (state t r)) (OutOfRange v.start)
  large_refused h = refused_here scope t r.at v look 4 _ _ (atom_is scope (levels scope n) t r v look Large h) refl refl

  pub unknown_refused : v.token ≡ Unknown → Refused (atom scope (levels scope n) (state t r)) (UnknownName v.start)
  unknown_refused h = refused_here scope t r.at v look 6 _ _ (atom_is scope (levels scope n) t r v look Unknown h) refl refl

  pub operand_reads : {U : Type 0} (c : Kind) (e : Tree) (x : Item) (res : Result U TextRefusal) (r' : Reader) → v.token ≡ c → OfToken c → lone x ≡ Some e → atom_at (levels scope n) (state t r) c ≡ operand (state t r) e → OperandRead r v x res r' → Reads t r (atom scope (levels scope n) (state t r)) res r'
  operand_reads c e x res r' h k l same reads = reads_by t r r' _ _ res (atom_is scope (levels scope n) t r v look c h ∙ same) (reads scope t e l look (token_ahead scope t r.at v look (of_kind v c h k)))

  module _ (is_open : v.token ≡ Open) where
    open_ahead : TokenAhead t r.at
    open_ahead = token_ahead scope t r.at v look (of_kind v Open is_open tt)

    pub open_shut : n ≡ 0 → Refused (atom scope (levels scope n) (state t r)) (PastLimit v.start)
    open_shut h = refused_here scope t r.at v look 8 _ _ (atom_is scope (levels scope n) t r v look Open is_open ∙ bracket_shut scope n _ h) refl refl

    module _ (some : n ≡ 0 → ⊥) (r1 : Reader) (passed : Passed r v.end r1) where
      open_is : atom scope (levels scope n) (state t r) ≡ then (expression scope (levels scope (n - 1)) (state t r1)) (closed scope)
      open_is = atom_is scope (levels scope n) t r v look Open is_open ∙ bracket_open scope n _ some ∙ ap (λ s. then (expression scope (levels scope (n - 1)) s) (closed scope)) (past_is scope t r v look r1 open_ahead passed)

      pub open_refused : (f : TextRefusal) → Refused (expression scope (levels scope (n - 1)) (state t r1)) f → Refused (atom scope (levels scope n) (state t r)) f
      open_refused f h = refused_by open_is (refused_on _ h)

      module _ (r2 : Reader) (b : Took t r1 (expression scope (levels scope (n - 1)) (state t r1)) r2) where
        inside_is : atom scope (levels scope n) (state t r) ≡ closed scope b.tree (state t r2)
        inside_is = open_is ∙ ap (λ o. then o (closed scope)) b.is

        pub closed_took : (r3 : Reader) (u : Placed Kind) → Looked scope t r2.at u → u.token ≡ Close → Passed r2 u.end r3 → Took t r (atom scope (levels scope n) (state t r)) r3
        closed_took r3 u here h p =
            let tk = token_ahead scope t r2.at u here (of_kind u Close h tt) in
            let over = passed_over scope t r r1 v look open_ahead passed in
            let out = passed_over scope t r2 r3 u here tk p in
            record {
              tree = b.tree;
              is = inside_is ∙ ap (closed_at b.tree (state t r2)) (sym here.kind ∙ h) ∙ ap (read b.tree) (past_is scope t r2 u here r3 tk p);
              wrote = (λ i. take (p.written i) (p.items i)) ∙ b.wrote ∙ ap (λ l. l ++ items b.tree) (λ i. take (passed.written i) (passed.items i));
              beyond = λ i d l. ap (λ y. get_or y i d) p.items ∙ b.beyond i d (omega (arith, p.written)) ∙ ap (λ y. get_or y i d) passed.items;
              within = out.1;
              fewer = omega (arith, out.0, b.fewer, over.0);
              even = omega (arith, p.written, p.counted, passed.written, passed.counted, b.even);
              longer = omega (arith, p.written, passed.written, b.longer);
            }

        pub closed_reads : {U : Type 0} (res : Result U TextRefusal) (r3 : Reader) → Closes scope t r2 res r3 → Reads t r (atom scope (levels scope n) (state t r)) res r3
        closed_reads (Ok x) r3 (u, here, h, p) = closed_took r3 u here h p
        closed_reads (Err f) r3 h = refused_by inside_is (h b.tree)
