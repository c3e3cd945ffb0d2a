-- The items of a tree leave its value on the stack.
use Rattle.std.proofs.Common.{◌≡◌, ℕ, ◌+◌, ◌*◌, ◌<◌, ◌≤◌, Bool, true, false, ◌&&◌, ltb, List, [], ◌∷◌, ◌++◌, length, get_or, drop, ℤ, pos, negsuc, ◌+ℤ◌, ◌≤ℤ◌, Some, None, Option, sym, refl, ap, ◌∙◌, subst, append_assoc, append-nil, arith}
use lib.Signed.{le_z}
use Rattle.std.proofs.lemmas.Bool.{lt-ltb, cond-true, and_from, ne_eqb}
use Rattle.std.specs.Prelude.{◌==◌}
use Rattle.std.specs.Bool.{then_some}
use Rattle.std.proofs.lemmas.List.{drop_more, drop_all}
use Rattle.std.proofs.lemmas.Int.{ints}
use Rattle.expression.specs.Tree.{Tree, number, variable, denial, joined, items, operands, applied, truth, Within}
use Rattle.expression.specs.declared.Operator.{Operator}
use Rattle.expression.specs.declared.Operator.TheVariants.{Or, And, Equal, NotEqual, Less, LessEqual, Plus, Minus}
use Rattle.expression.specs.declared.Item.{Item}
use Rattle.expression.specs.declared.Item.TheVariants.{Not, Operator as Joins}
use Rattle.step_rule.specs.Rule.{vars_of, worth}
use Rattle.step_rule.proofs.Operands.{some_operand}
use Rattle.evaluation.specs.Postfix.{small, pushed, stepped, single, worked_out, GivesValues}

-- z lies between -n and n.
record Sized (n : ℕ) (z : ℤ) : Type 0 where
  low : pos 0 ≤ℤ (z +ℤ pos n)
  high : z ≤ℤ pos n

truth_sized : (b : Bool) (n : ℕ) → 1 ≤ n → Sized n (truth b)
truth_sized true n h = record { low = omega (arith, ints); high = omega (arith, ints) }
truth_sized false n h = record { low = omega (arith, ints); high = omega (arith, ints) }

applied_sized : (o : Operator) (a b : ℤ) (m n : ℕ) → 1 ≤ m → Sized m a → Sized n b → Sized (m + n) (applied o a b)
applied_sized Or a b m n h p q = truth_sized _ _ (omega arith)
applied_sized And a b m n h p q = truth_sized _ _ (omega arith)
applied_sized Equal a b m n h p q = truth_sized _ _ (omega arith)
applied_sized NotEqual a b m n h p q = truth_sized _ _ (omega arith)
applied_sized Less a b m n h p q = truth_sized _ _ (omega arith)
applied_sized LessEqual a b m n h p q = truth_sized _ _ (omega arith)
applied_sized Plus a b m n h p q = record { low = omega (arith, ints, p.low, p.high, q.low, q.high); high = omega (arith, ints, p.low, p.high, q.low, q.high) }
applied_sized Minus a b m n h p q = record { low = omega (arith, ints, p.low, p.high, q.low, q.high); high = omega (arith, ints, p.low, p.high, q.low, q.high) }

abbrev Bytes : List ℕ → Type 0
Bytes vs = (v : ℕ) → v < length vs → get_or vs v 0 < 256

value_sized : (vs : List ℕ) (e : Tree) → Bytes vs → Within (length vs) e → Sized (255 * operands e) (worth vs e)
value_sized vs (number k) by w = record { low = omega (arith, ints); high = omega (arith, ints) }
value_sized vs (variable v) by w = let h = by v w in record { low = omega (arith, ints); high = omega (arith, ints) }
value_sized vs (denial e) by w = truth_sized _ _ (omega (arith, some_operand e))
value_sized vs (joined o a b) by w =
    let q : 255 * operands a + 255 * operands b ≡ 255 * (operands a + operands b) = omega arith in
    subst (λ n. Sized n (applied o (worth vs a) (worth vs b))) q (applied_sized o _ _ _ _ (omega (arith, some_operand a)) (value_sized vs a by w.0) (value_sized vs b by w.1))

small_when : (n : ℕ) (z : ℤ) → n ≤ 8160 → Sized n z → small z ≡ true
small_when n z h s =
    let l = s.low in
    let k = s.high in
    and_from (le_z (negsuc 8159) z) (le_z z (pos 8160)) (grind (arith, ints)) (grind (arith, ints))

module _ (places : ℕ) (vs : List ℕ) (by : Bytes vs) where
  room : (z : ℤ) (st : List ℤ) → length st < places → pushed places z st ≡ Some (z ∷ st)
  room z st h = cond-true (ltb (length st) places) (Some (z ∷ st)) None (lt-ltb (length st) places h)

  -- The items of a tree put its value on top.
  pub after_items : (e : Tree) (is : List Item) (st : List ℤ) → Within (length vs) e → operands e ≤ 32 → length st + operands e ≤ places →
      worked_out places vs (items e ++ is) (Some st) ≡ worked_out places vs is (Some (worth vs e ∷ st))
  after_items (number k) is st w f h = ap (worked_out places vs is) (room (pos k) st (omega arith))
  after_items (variable v) is st w f h =
      ap (worked_out places vs is) (cond-true (ltb v (length vs)) (pushed places (vars_of vs v) st) None (lt-ltb v (length vs) w) ∙ room (vars_of vs v) st (omega arith))
  after_items (denial e) is st w f h =
      ap (λ l. worked_out places vs l (Some st)) (append_assoc (items e) (Not ∷ []) is)
      ∙ after_items e (Not ∷ is) st w f h
      ∙ ap (worked_out places vs is) (room _ st (omega (arith, some_operand e)))
  after_items (joined o a b) is st w f h =
      let x = some_operand a in
      let y = some_operand b in
      let s = small_when _ _ (omega arith) (value_sized vs a by w.0) in
      let t = small_when _ _ (omega arith) (value_sized vs b by w.1) in
      ap (λ l. worked_out places vs l (Some st)) (append_assoc (items a) (items b ++ (Joins o ∷ [])) is ∙ ap (λ l. items a ++ l) (append_assoc (items b) (Joins o ∷ []) is))
      ∙ after_items a (items b ++ (Joins o ∷ is)) st w.0 (omega arith) (omega arith)
      ∙ after_items b (Joins o ∷ is) (worth vs a ∷ st) w.1 (omega arith) (omega arith)
      ∙ ap (worked_out places vs is) (cond-true (small (worth vs a) && small (worth vs b)) _ None (and_from _ _ s t) ∙ room _ st (omega arith))

  pub gives_values : (code : List Item) (r : Option ℤ) → r ≡ worked_out places vs code (Some []) → GivesValues code vs places r
  gives_values code r is e same w f big =
      is ∙ ap (λ l. worked_out places vs l (Some [])) (same ∙ sym (append-nil (items e))) ∙ after_items e [] [] w f (omega arith)

-- A step that cannot be ends the work.
pub stuck : (places : ℕ) (vs : List ℕ) (xs : List Item) → worked_out places vs xs None ≡ None
stuck places vs [] = refl
stuck places vs (x ∷ xs) = refl

-- One item of what is left is worked out.
pub one_more : (places now' : ℕ) (vs : List ℕ) (code : List Item) (i : ℕ) (d : Item) (st : List ℤ) (all : Option ℤ) → now' ≡ places → i < length code →
    worked_out places vs (drop i code) (Some st) ≡ all → worked_out places vs (drop (i + 1) code) (stepped now' vs (get_or code i d) st) ≡ all
one_more places now' vs code i d st all e l inv =
    ap (λ n. worked_out places vs (drop (i + 1) code) (stepped n vs (get_or code i d) st)) e
    ∙ ap (λ w. worked_out places vs w (Some st)) (sym (drop_more code i d l)) ∙ inv

-- What is left after the last item.
pub at_end : (places : ℕ) (vs : List ℕ) (code : List Item) (i : ℕ) (st : List ℤ) (all : Option ℤ) → length code ≤ i → worked_out places vs (drop i code) (Some st) ≡ all → single st ≡ all
at_end places vs code i st all l inv = ap (λ w. worked_out places vs w (Some st)) (sym (drop_all i code l)) ∙ inv

-- The operand on top is the answer where it is alone.
pub alone : (z : ℤ) (st : List ℤ) → then_some (length st == 0) z ≡ single (z ∷ st)
alone z [] = refl
alone z (y ∷ st) = ap (λ b. then_some b z) (ne_eqb (length (y ∷ st)) 0 (λ e. absurd (omega arith)))

-- The work begins with an empty stack over the room.
pub begun : (room over : List ℤ) (vs : List ℕ) (code : List Item) (st : List ℤ) → over ≡ room → st ≡ [] →
    worked_out (length over) vs code (Some st) ≡ worked_out (length room) vs code (Some [])
begun room over vs code st e f = ap (λ l. worked_out (length l) vs code (Some st)) e ∙ ap (λ l. worked_out (length room) vs code (Some l)) f
