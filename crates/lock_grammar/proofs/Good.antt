-- What the parts of a lock text promise of the program. Assumes nothing.
use Rattle.std.proofs.Common.{◌≡◌, ℕ, zero, suc, ◌+◌, ◌<◌, ◌≤◌, Bool, true, false, cond, eqb, List, [], ◌∷◌, ◌++◌, length, Some, None, Option, sym, refl, subst, arith, eqb-true}
use borrow.Author.Tests.{eqb-false}
use Rattle.std.specs.List.{AllByRecursion}
use Rattle.std.specs.Str.{bytes_eq}
use Rattle.std.proofs.ByRecursion.{All-push}
use Rattle.lock_text.specs.Spelling.{Lexeme}
use Rattle.expression.specs.Tree.{Tree, Within, max_levels}
use Rattle.expression_grammar.specs.Kinds.{Scope}
use Rattle.expression_grammar.specs.Grammar as X
use Rattle.expression_grammar.specs.Grammar.{Joined, Rules, Atom, Factor, Expression, rules}
use Rattle.step_rule.specs.Programs.{Assignment, GoodTree, GoodAssignment, Spares, AssignedOnce}
use Rattle.lock_grammar.specs.Names.{Name, one_later, index_of}
use Rattle.lock_grammar.specs.Grammar as G
use Rattle.lock_grammar.specs.Grammar.{KnownName, Formula, Assigned, Assignments}

-- a name found is one of those there

no_index : {A : Type 0} {i : ℕ} → ◌≡◌ {A = Option ℕ} None (Some i) → A
no_index h = let z : ◌≡◌ {A = ℕ} 0 1 = cc in absurd (omega arith)

index_by : (b : Bool) (o : Option ℕ) (n i : ℕ) → ((j : ℕ) → o ≡ Some j → j < n) → cond b (Some 0) (one_later o) ≡ Some i → i < suc n
index_by true o n i ih h = let z : 0 ≡ i = cc in omega arith
index_by false None n i ih h = no_index h
index_by false (Some j) n i ih h =
    let z : j + 1 ≡ i = cc in
    omega (arith, ih j refl)

pub index_below : (names : List Name) (w : Name) (i : ℕ) → index_of names w ≡ Some i → i < length names
unfolding index_of
index_below [] w i h = no_index h
index_below (n ∷ ns) w i h = let q = index_by (bytes_eq w n) (index_of ns w) (length ns) i (λ j e. index_below ns w j e) h in omega arith

pub known_below : {names : List Name} {i : ℕ} {l : Lexeme} → KnownName names i l → i < length names
known_below {names} (G.known_name w i e) = index_below names w i e

-- expressions

module _ (scope : Scope) (n : ℕ) (below : (w : Name) (v : ℕ) → scope w ≡ Some v → v < n) where
  joined_within : {k : ℕ} {P : Tree → List Lexeme → Type 0} → ((e : Tree) (ts : List Lexeme) → P e ts → Within n e) → {e : Tree} {ts : List Lexeme} → Joined k P e ts → Within n e
  joined_within ok (X.one p) = ok _ _ p
  joined_within ok (X.more o r d p) = (joined_within ok d, ok _ _ p)

  record Inner (R : Rules) : Type 0 where
    brackets : (e : Tree) (ts : List Lexeme) → R.in_brackets e ts → Within n e
    denials : (e : Tree) (ts : List Lexeme) → R.denied e ts → Within n e

  module _ (R : Rules) (ok : Inner R) where
    atom_within : (e : Tree) (ts : List Lexeme) → Atom scope R e ts → Within n e
    atom_within e ts (X.a_number w h) = h
    atom_within e ts (X.a_variable w v h) = below w v h
    atom_within e ts (X.bracketed {ts = us} d) = ok.brackets e us d

    factor_within : (e : Tree) (ts : List Lexeme) → Factor scope R e ts → Within n e
    factor_within e ts (X.a_denial {e = a} {ts = us} d) = ok.denials a us d
    factor_within e ts (X.a_sum d) = joined_within atom_within d
    factor_within e ts (X.a_test o r a b) = (joined_within atom_within a, joined_within atom_within b)

    expression_within : (e : Tree) (ts : List Lexeme) → Expression scope R e ts → Within n e
    expression_within e ts d = joined_within (λ a us t. joined_within factor_within t) d

  rules_within : (m : ℕ) → Inner (rules scope m)
  rules_within zero = record { brackets = λ e ts d. absurd d; denials = λ e ts d. absurd d }
  rules_within (suc m) = record { brackets = expression_within (rules scope m) (rules_within m); denials = factor_within (rules scope m) (rules_within m) }

pub formula_good : {variables : List Name} {e : Tree} {ts : List Lexeme} → Formula variables e ts → GoodTree (length variables) e
formula_good {variables} {e} {ts} (G.formula d few) =
    (expression_within (index_of variables) (length variables) (index_below variables) (rules (index_of variables) max_levels) (rules_within (index_of variables) (length variables) (index_below variables) max_levels) e ts d, few)

-- assignments: each to another variable

once_push : (all : List Assignment) (a : Assignment) → AssignedOnce all → AllByRecursion (Spares a.target) all → AssignedOnce (all ++ (a ∷ []))
once_push [] a o s = (tt, tt)
once_push (b ∷ rest) a (p, o) (q, s) = (All-push (Spares b.target) rest a p (λ e. q (sym e)), once_push rest a o s)

abbrev pub SoundList : ℕ → List Assignment → Type 0
SoundList n all = AllByRecursion (GoodAssignment n) all × AssignedOnce all

pub list_push : (n : ℕ) (before : List Assignment) (a : Assignment) → SoundList n before → GoodAssignment n a → AllByRecursion (Spares a.target) before → SoundList n (before ++ (a ∷ []))
list_push n before a (p, o) g s = (All-push (GoodAssignment n) before a p g, once_push before a o s)

pub assigned_good : {variables : List Name} {before all : List Assignment} {ls : List Lexeme} → Assigned variables before all ls → SoundList (length variables) before → SoundList (length variables) all
assigned_good {variables} {before} (G.last {v = v} {e = e} (G.target k s) f) g = list_push (length variables) before (record { target = v; source = e }) g (known_below k, formula_good f) s
assigned_good {variables} {before} (G.and_then {v = v} {e = e} (G.target k s) f d) g =
    assigned_good d (list_push (length variables) before (record { target = v; source = e }) g (known_below k, formula_good f) s)

pub assignments_good : {variables : List Name} {all : List Assignment} {ls : List Lexeme} → Assignments variables all ls → SoundList (length variables) all
assignments_good G.nothing = (tt, tt)
assignments_good (G.something d) = assigned_good d (tt, tt)

-- so there are no more assignments than variables

kept_if : Bool → Assignment → List Assignment → List Assignment
kept_if true a rest = rest
kept_if false a rest = a ∷ rest

-- the assignments to other variables than v
without : ℕ → List Assignment → List Assignment
without v [] = []
without v (a ∷ rest) = kept_if (eqb a.target v) a (without v rest)

kept_all : (P : Assignment → Type 0) (b : Bool) (a : Assignment) (rest : List Assignment) → (b ≡ false → P a) → AllByRecursion P rest → AllByRecursion P (kept_if b a rest)
unfolding kept_if
kept_all P true a rest p q = q
kept_all P false a rest p q = (p refl, q)

without_all : (P Q : Assignment → Type 0) (v : ℕ) → ((a : Assignment) → P a → Spares v a → Q a) → (all : List Assignment) → AllByRecursion P all → AllByRecursion Q (without v all)
unfolding without
without_all P Q v to [] h = tt
without_all P Q v to (a ∷ rest) (p, h) = kept_all Q _ a _ (λ e. to a p (eqb-false _ _ e)) (without_all P Q v to rest h)

kept_once : (b : Bool) (a : Assignment) (rest : List Assignment) → AllByRecursion (Spares a.target) rest → AssignedOnce rest → AssignedOnce (kept_if b a rest)
unfolding kept_if
kept_once true a rest p o = o
kept_once false a rest p o = (p, o)

without_once : (v : ℕ) (all : List Assignment) → AssignedOnce all → AssignedOnce (without v all)
unfolding without
without_once v [] o = tt
without_once v (a ∷ rest) (p, o) = kept_once _ a _ (without_all (Spares a.target) (Spares a.target) v (λ b s t. s) rest p) (without_once v rest o)

kept_length : (b : Bool) (a : Assignment) (rest : List Assignment) → length (kept_if b a rest) ≤ length rest + 1
unfolding kept_if
kept_length true a rest = omega arith
kept_length false a rest = omega arith

kept_false : (b : Bool) (a : Assignment) (rest : List Assignment) → b ≡ false → length (kept_if b a rest) ≡ length rest + 1
unfolding kept_if
kept_false true a rest h = let z : ◌≡◌ {A = ℕ} 0 1 = cc in absurd (omega arith)
kept_false false a rest h = omega arith

spares_false : (v : ℕ) (a : Assignment) (b : Bool) → eqb a.target v ≡ b → Spares v a → b ≡ false
spares_false v a true e s = absurd (s (eqb-true _ _ e))
spares_false v a false e s = refl

without_none : (v : ℕ) (all : List Assignment) → AllByRecursion (Spares v) all → length (without v all) ≡ length all
unfolding without
without_none v [] h = refl
without_none v (a ∷ rest) (p, h) = let q = kept_false _ a (without v rest) (spares_false v a _ refl p) in omega (arith, without_none v rest h)

lost_one : (v : ℕ) (a : Assignment) (rest : List Assignment) (b : Bool) → eqb a.target v ≡ b → AllByRecursion (Spares a.target) rest → length rest ≤ length (without v rest) + 1 → length rest + 1 ≤ length (kept_if b a (without v rest)) + 1
unfolding kept_if
lost_one v a rest true e s l =
    let q = eqb-true _ _ e in
    let r = without_none v rest (subst (λ (i : ℕ). AllByRecursion (Spares i) rest) q s) in
    omega arith
lost_one v a rest false e s l = omega arith

without_one : (v : ℕ) (all : List Assignment) → AssignedOnce all → length all ≤ length (without v all) + 1
unfolding without
without_one v [] o = omega arith
without_one v (a ∷ rest) (s, o) = let q = lost_one v a rest _ refl s (without_one v rest o) in omega arith

abbrev Below : ℕ → Assignment → Type 0
Below n a = a.target < n

pub no_more_than_variables : (n : ℕ) (all : List Assignment) → AllByRecursion (Below n) all → AssignedOnce all → length all ≤ n
no_more_than_variables zero [] h o = omega arith
no_more_than_variables zero (a ∷ rest) (p, h) o = absurd (omega arith)
no_more_than_variables (suc n) all h o =
    let less = without_all (Below (suc n)) (Below n) n (λ a p s. below_other a p s) all h in
    omega (arith, without_one n all o, no_more_than_variables n (without n all) less (without_once n all o))
  where
    below_other : (a : Assignment) → a.target < suc n → ¬ (a.target ≡ n) → a.target < n
    below_other a p s = omega arith

pub all_below : (n : ℕ) (all : List Assignment) → AllByRecursion (GoodAssignment n) all → AllByRecursion (Below n) all
all_below n [] h = tt
all_below n (a ∷ rest) (p, h) = (p.0, all_below n rest h)

pub assigned_few : {variables : List Name} {all : List Assignment} {ls : List Lexeme} → Assigned variables [] all ls → length all ≤ length variables
assigned_few {variables} {all} d =
    let g = assigned_good d (tt, tt) in
    no_more_than_variables (length variables) all (all_below (length variables) all g.0) g.1
