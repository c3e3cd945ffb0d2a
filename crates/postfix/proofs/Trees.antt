-- Items and trees.
use Rattle.std.proofs.Common.{◌≡◌, ℕ, ◌+◌, ◌-◌, ◌<◌, ◌≤◌, Bool, true, false, ◌&&◌, eqb, ltb, List, [], ◌∷◌, ◌++◌, length, get_or, drop, sym, refl, ap, ◌∙◌, subst, append_assoc, append-nil, arith}
use Rattle.std.proofs.lemmas.List.{drop_more, drop_all}
use Rattle.std.proofs.lemmas.Bool.{lt-ltb, ltb-true, eqb-true, and_parts}
use Rattle.expression.specs.Tree.{Tree, number, variable, denial, joined, items, operands, Within}
use Rattle.expression.specs.declared.Item.{Item}
use Rattle.expression.specs.declared.Item.TheVariants.{Number, Variable, Not, Operator as Joins}
use Rattle.step_rule.specs.Programs.{GoodTree}
use Rattle.postfix.specs.Decoding.{trees, first_of, tree_of, goes_on, admitted, IsExpression}

-- The items of a tree leave it on top.
pub trees_items : (t : Tree) (xs : List Item) (ts : List Tree) → trees (items t ++ xs) ts ≡ trees xs (t ∷ ts)
trees_items (number k) xs ts = refl
trees_items (variable v) xs ts = refl
trees_items (denial e) xs ts = ap (λ l. trees l ts) (append_assoc (items e) (Not ∷ []) xs) ∙ trees_items e (Not ∷ xs) ts
trees_items (joined o a b) xs ts =
    ap (λ l. trees l ts) (append_assoc (items a) (items b ++ (Joins o ∷ [])) xs ∙ ap (λ l. items a ++ l) (append_assoc (items b) (Joins o ∷ []) xs))
    ∙ trees_items a (items b ++ (Joins o ∷ xs)) ts ∙ trees_items b (Joins o ∷ xs) (a ∷ ts)

pub tree_of_items : (t : Tree) → tree_of (items t) ≡ t
tree_of_items t = ap (λ l. first_of (trees l [])) (sym (append-nil (items t))) ∙ ap first_of (trees_items t [] [])

passes : (b c d : Bool) → b ≡ true → c ≡ d → (b && c) ≡ d
passes true c d e f = f
passes false c d e f = absurd (let z : ◌≡◌ {A = ℕ} 0 1 = cc in let g : ⊥ = omega arith in g)

-- The items of a tree within the limits go on as one expression more.
pub goes_items : (n : ℕ) (t : Tree) (xs : List Item) (depth count : ℕ) → Within n t → count + operands t ≤ 32 → goes_on n (items t ++ xs) depth count ≡ goes_on n xs (depth + 1) (count + operands t)
goes_items n (number k) xs depth count w h = passes (ltb k 256) _ _ (lt-ltb k 256 w) (passes (ltb count 32) _ _ (lt-ltb count 32 (omega arith)) refl)
goes_items n (variable v) xs depth count w h = passes (ltb v n) _ _ (lt-ltb v n w) (passes (ltb count 32) _ _ (lt-ltb count 32 (omega arith)) refl)
goes_items n (denial e) xs depth count w h =
    ap (λ l. goes_on n l depth count) (append_assoc (items e) (Not ∷ []) xs) ∙ goes_items n e (Not ∷ xs) depth count w h
    ∙ passes (ltb 0 (depth + 1)) _ _ (lt-ltb 0 (depth + 1) (omega arith)) refl
goes_items n (joined o a b) xs depth count w h =
    let e : depth + 1 + 1 - 1 ≡ depth + 1 = omega arith in
    let f : count + operands a + operands b ≡ count + (operands a + operands b) = omega arith in
    ap (λ l. goes_on n l depth count) (append_assoc (items a) (items b ++ (Joins o ∷ [])) xs ∙ ap (λ l. items a ++ l) (append_assoc (items b) (Joins o ∷ []) xs))
    ∙ goes_items n a (items b ++ (Joins o ∷ xs)) depth count w.0 (omega arith)
    ∙ goes_items n b (Joins o ∷ xs) (depth + 1) (count + operands a) w.1 (omega arith)
    ∙ passes (ltb 1 (depth + 1 + 1)) _ _ (lt-ltb 1 (depth + 1 + 1) (omega arith)) (ap (λ k. goes_on n xs k (count + operands a + operands b)) e ∙ ap (goes_on n xs (depth + 1)) f)

pub admitted_items : (n : ℕ) (t : Tree) → GoodTree n t → admitted n (items t) ≡ true
admitted_items n t g = ap (λ l. goes_on n l 0 0) (sym (append-nil (items t))) ∙ goes_items n t [] 0 0 g.0 (omega (arith, g.1)) ∙ refl

-- The items of expressions that stand open, the last one first.
abbrev flat : List Tree → List Item
flat [] = []
flat (t ∷ ts) = flat ts ++ items t

abbrev total : List Tree → ℕ
total [] = 0
total (t ∷ ts) = total ts + operands t

abbrev Each : ℕ → List Tree → Type 0
Each n [] = Unit {0}
Each n (t ∷ ts) = Within n t × Each n ts

-- Items that go on to the end make one expression of what stands open.
record Ends (n : ℕ) (xs : List Item) (ts : List Tree) : Type 0 where
  tree : Tree
  one : trees xs ts ≡ tree ∷ []
  written : flat ts ++ xs ≡ items tree
  good : GoodTree n tree

ends : (n : ℕ) (xs : List Item) (ts : List Tree) (depth count : ℕ) → length ts ≡ depth → total ts ≡ count → count ≤ 32 → Each n ts → goes_on n xs depth count ≡ true → Ends n xs ts
ends n [] [] depth count l c h w g = absurd (let e = eqb-true depth 1 g in let f : ⊥ = omega arith in f)
ends n [] (t ∷ []) depth count l c h w g =
    record { tree = t; one = refl; written = append-nil (items t); good = (w.0, omega arith) }
ends n [] (t ∷ u ∷ ts) depth count l c h w g = absurd (let e = eqb-true depth 1 g in let f : ⊥ = omega arith in f)
ends n (Number k ∷ xs) ts depth count l c h w g =
    let a = and_parts (ltb k 256) _ g in
    let b = and_parts (ltb count 32) _ a.1 in
    let lt = ltb-true count 32 b.0 in
    let r = ends n xs (number k ∷ ts) (depth + 1) (count + 1) (omega arith) (omega arith) (omega arith) (ltb-true k 256 a.0, w) b.1 in
    record { tree = r.tree; one = r.one; written = sym (append_assoc (flat ts) (Number k ∷ []) xs) ∙ r.written; good = r.good }
ends n (Variable v ∷ xs) ts depth count l c h w g =
    let a = and_parts (ltb v n) _ g in
    let b = and_parts (ltb count 32) _ a.1 in
    let lt = ltb-true count 32 b.0 in
    let r = ends n xs (variable v ∷ ts) (depth + 1) (count + 1) (omega arith) (omega arith) (omega arith) (ltb-true v n a.0, w) b.1 in
    record { tree = r.tree; one = r.one; written = sym (append_assoc (flat ts) (Variable v ∷ []) xs) ∙ r.written; good = r.good }
ends n (Not ∷ xs) [] depth count l c h w g = absurd (let a = and_parts (ltb 0 depth) _ g in let e = ltb-true 0 depth a.0 in let f : ⊥ = omega arith in f)
ends n (Not ∷ xs) (t ∷ ts) depth count l c h w g =
    let a = and_parts (ltb 0 depth) _ g in
    let r = ends n xs (denial t ∷ ts) depth count l c h w a.1 in
    record { tree = r.tree; one = r.one; written = sym (append_assoc (flat ts ++ items t) (Not ∷ []) xs) ∙ ap (λ q. q ++ xs) (append_assoc (flat ts) (items t) (Not ∷ [])) ∙ r.written; good = r.good }
ends n (Joins o ∷ xs) [] depth count l c h w g = absurd (let a = and_parts (ltb 1 depth) _ g in let e = ltb-true 1 depth a.0 in let f : ⊥ = omega arith in f)
ends n (Joins o ∷ xs) (t ∷ []) depth count l c h w g = absurd (let a = and_parts (ltb 1 depth) _ g in let e = ltb-true 1 depth a.0 in let f : ⊥ = omega arith in f)
ends n (Joins o ∷ xs) (t ∷ u ∷ ts) depth count l c h w g =
    let a = and_parts (ltb 1 depth) _ g in
    let r = ends n xs (joined o u t ∷ ts) (depth - 1) count (omega arith) (omega arith) h ((w.1.0, w.0), w.1.1) a.1 in
    let e : ((flat ts ++ items u) ++ items t) ++ (Joins o ∷ []) ≡ flat ts ++ (items u ++ (items t ++ (Joins o ∷ []))) = append_assoc (flat ts ++ items u) (items t) (Joins o ∷ []) ∙ append_assoc (flat ts) (items u) (items t ++ (Joins o ∷ [])) in
    record { tree = r.tree; one = r.one; written = sym (append_assoc ((flat ts ++ items u) ++ items t) (Joins o ∷ []) xs) ∙ ap (λ q. q ++ xs) e ∙ r.written; good = r.good }

-- Admitted items are those of their expression.
pub admitted_is : (n : ℕ) (xs : List Item) → admitted n xs ≡ true → IsExpression n xs (tree_of xs)
admitted_is n xs g =
    let r = ends n xs [] 0 0 refl refl (omega arith) tt g in
    let e : r.tree ≡ tree_of xs = sym (ap first_of r.one) in
    subst (IsExpression n xs) e (record { written = r.written; good = r.good })

pub is_admitted : (n : ℕ) (xs : List Item) (t : Tree) → IsExpression n xs t → (admitted n xs ≡ true) × (tree_of xs ≡ t)
is_admitted n xs t is = (ap (admitted n) is.written ∙ admitted_items n t is.good, ap tree_of is.written ∙ tree_of_items t)

pub answered : (n : ℕ) (xs : List Item) (r : Bool) → r ≡ admitted n xs → ((r ≡ true → IsExpression n xs (tree_of xs)) × ((t : Tree) → IsExpression n xs t → (r ≡ true) × (tree_of xs ≡ t)))
answered n xs r e = ((λ f. admitted_is n xs (sym e ∙ f)), λ t is. let a = is_admitted n xs t is in (e ∙ a.0, a.1))

-- What is left begins with the next item.
pub ahead : (n : ℕ) (xs : List Item) (i : ℕ) (d x : Item) (depth count : ℕ) (all : Bool) → i < length xs → get_or xs i d ≡ x →
    goes_on n (drop i xs) depth count ≡ all → goes_on n (x ∷ drop (i + 1) xs) depth count ≡ all
ahead n xs i d x depth count all l e inv =
    ap (λ y. goes_on n (y ∷ drop (i + 1) xs) depth count) (sym e) ∙ ap (λ w. goes_on n w depth count) (sym (drop_more xs i d l)) ∙ inv

pub at_end : (n : ℕ) (xs : List Item) (i depth count : ℕ) (all : Bool) → length xs ≤ i → goes_on n (drop i xs) depth count ≡ all → eqb depth 1 ≡ all
at_end n xs i depth count all l inv = ap (λ w. goes_on n w depth count) (sym (drop_all i xs l)) ∙ inv
