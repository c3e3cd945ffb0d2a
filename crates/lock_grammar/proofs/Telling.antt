-- Each test of a token takes exactly the tokens that the grammar has at that place. Assumes nothing.
use Rattle.std.proofs.Common.{◌≡◌, ℕ, Bool, true, false, not, ◌&&◌, eqb, List, [], ◌∷◌, get_or, Some, None, Option, sym, refl, ap, ◌∙◌, subst, arith, ltb-true, lt-ltb, eq-eqb, ne_eqb, eqb-true, le-leb, leb-true}
use borrow.Author.Tests.{eqb-false, not-true}
use Rattle.std.specs.List.{AllByRecursion}
use Rattle.system.specs.declared.Region.{Region}
use Rattle.lock_text.specs.Spelling.{Lexeme, name, number, word, mark}
use Rattle.lock_text.specs.declared.token.Word.{Word}
use Rattle.lock_text.specs.declared.token.Word.TheVariants as Words
use Rattle.lock_text.specs.declared.token.Mark.{Mark}
use Rattle.lock_text.specs.declared.token.Mark.TheVariants as Marks
use Rattle.expression_grammar.specs.Kinds.{decimal}
use Rattle.step_rule.specs.Programs.{Assignment, Spares}
use Rattle.lock_grammar.specs.Names.{Name, index_of}
use Rattle.lock_grammar.specs.Combinators.{Verdict, takes, refuses, taken_if}
use Rattle.lock_grammar.specs.Tests.{word_number, mark_number, this_word, this_mark, number_within, new_by, undeclared, known_by, declared, region_of, region_by, region_word, class_or_none, spared, target_by, unassigned, all_assigned, none_left, some_target, ends_or, target_or_end, comma_by, comma_or_end}
use Rattle.lock_grammar.specs.Grammar as G
use Rattle.lock_grammar.specs.Grammar.{Numeral, NewName, KnownName, RegionWord, Class, Target}
use Rattle.lock_grammar.proofs.Parts.{Tells}

-- verdicts

pub no_take : {A : Type 0} {B : Type 0} {n : ℕ} {a : A} → ◌≡◌ {A = Verdict A} (refuses n) (takes a) → B
no_take h = let z : ◌≡◌ {A = ℕ} 0 1 = cc in absurd (omega arith)

if_takes : {A : Type 0} (b : Bool) (n : ℕ) (a c : A) → taken_if b n a ≡ takes c → (b ≡ true) × (a ≡ c)
if_takes true n a c h = (refl, cc)
if_takes false n a c h = no_take h

if_true : {A : Type 0} (b : Bool) (n : ℕ) (a : A) → b ≡ true → taken_if b n a ≡ takes a
if_true b n a h = ap (λ c. taken_if c n a) h

and_split : (a b : Bool) → (a && b) ≡ true → (a ≡ true) × (b ≡ true)
and_split true b h = (refl, h)
and_split false b h = let z : ◌≡◌ {A = ℕ} 0 1 = cc in absurd (omega arith)

and_join : (a b : Bool) → a ≡ true → b ≡ true → (a && b) ≡ true
and_join true b p q = q
and_join false b p q = p

-- words and marks

word_of : ℕ → Word
word_of n =
    get_or (Words.Procs ∷ Words.Vars ∷ Words.Locs ∷ Words.Classes ∷ Words.Cmds ∷ Words.Idle ∷ Words.Try ∷ Words.Crit ∷ Words.Exit ∷ Words.None ∷ Words.And ∷ Words.Or ∷ Words.Not ∷ []) n Words.Procs

word_back : (k : Word) → word_of (word_number k) ≡ k
unfolding word_of
word_back Words.Procs = refl
word_back Words.Vars = refl
word_back Words.Locs = refl
word_back Words.Classes = refl
word_back Words.Cmds = refl
word_back Words.Idle = refl
word_back Words.Try = refl
word_back Words.Crit = refl
word_back Words.Exit = refl
word_back Words.None = refl
word_back Words.And = refl
word_back Words.Or = refl
word_back Words.Not = refl

same_word : (j k : Word) → eqb (word_number j) (word_number k) ≡ true → j ≡ k
same_word j k h = sym (word_back j) ∙ ap word_of (eqb-true _ _ h) ∙ word_back k

mark_of : ℕ → Mark
mark_of n =
    get_or (Marks.Open ∷ Marks.Close ∷ Marks.Plus ∷ Marks.Minus ∷ Marks.Assign ∷ Marks.Equal ∷ Marks.NotEqual ∷ Marks.Less ∷ Marks.LessEqual ∷ Marks.Colon ∷ Marks.Semicolon ∷ Marks.Comma ∷ []) n Marks.Open

mark_back : (k : Mark) → mark_of (mark_number k) ≡ k
unfolding mark_of
mark_back Marks.Open = refl
mark_back Marks.Close = refl
mark_back Marks.Plus = refl
mark_back Marks.Minus = refl
mark_back Marks.Assign = refl
mark_back Marks.Equal = refl
mark_back Marks.NotEqual = refl
mark_back Marks.Less = refl
mark_back Marks.LessEqual = refl
mark_back Marks.Colon = refl
mark_back Marks.Semicolon = refl
mark_back Marks.Comma = refl

same_mark : (j k : Mark) → eqb (mark_number j) (mark_number k) ≡ true → j ≡ k
same_mark j k h = sym (mark_back j) ∙ ap mark_of (eqb-true _ _ h) ∙ mark_back k

pub data IsWord (k : Word) : Unit {0} → Lexeme → Type 0 where
  is_word : IsWord k tt (word k)

pub data IsMark (k : Mark) : Unit {0} → Lexeme → Type 0 where
  is_mark : IsMark k tt (mark k)

word_told : (k : Word) (l : Lexeme) (a : Unit {0}) → this_word k l ≡ takes a → IsWord k a l
unfolding this_word
word_told k (name w) a h = no_take h
word_told k (number w) a h = no_take h
word_told k (word j) a h =
    let p = if_takes _ 3 tt a h in
    subst (λ (i : Word). IsWord k a (word i)) (sym (same_word j k p.0)) (subst (λ (u : Unit {0}). IsWord k u (word k)) p.1 is_word)
word_told k (mark m) a h = no_take h

word_tells : (k : Word) (a : Unit {0}) (l : Lexeme) → IsWord k a l → this_word k l ≡ takes a
unfolding this_word
word_tells k a l is_word = if_true _ 3 tt (eq-eqb (word_number k) (word_number k) refl)

pub tells_word : (k : Word) → Tells (this_word k) (IsWord k)
tells_word k = record { told = word_told k; tells = word_tells k }

mark_told : (k : Mark) (l : Lexeme) (a : Unit {0}) → this_mark k l ≡ takes a → IsMark k a l
unfolding this_mark
mark_told k (name w) a h = no_take h
mark_told k (number w) a h = no_take h
mark_told k (word j) a h = no_take h
mark_told k (mark j) a h =
    let p = if_takes _ 3 tt a h in
    subst (λ (i : Mark). IsMark k a (mark i)) (sym (same_mark j k p.0)) (subst (λ (u : Unit {0}). IsMark k u (mark k)) p.1 is_mark)

mark_tells : (k : Mark) (a : Unit {0}) (l : Lexeme) → IsMark k a l → this_mark k l ≡ takes a
unfolding this_mark
mark_tells k a l is_mark = if_true _ 3 tt (eq-eqb (mark_number k) (mark_number k) refl)

pub tells_mark : (k : Mark) → Tells (this_mark k) (IsMark k)
tells_mark k = record { told = mark_told k; tells = mark_tells k }

-- numbers

number_told : (low bound : ℕ) (l : Lexeme) (a : ℕ) → number_within low bound l ≡ takes a → Numeral low bound a l
unfolding number_within
number_told low bound (name w) a h = no_take h
number_told low bound (number w) a h =
    let p = if_takes _ 4 (decimal w) a h in
    let q = and_split _ _ p.0 in
    subst (λ (n : ℕ). Numeral low bound n (number w)) p.1 (G.numeral w (leb-true _ _ q.0) (ltb-true _ _ q.1))
number_told low bound (word j) a h = no_take h
number_told low bound (mark m) a h = no_take h

number_tells : (low bound a : ℕ) (l : Lexeme) → Numeral low bound a l → number_within low bound l ≡ takes a
unfolding number_within
number_tells low bound a l (G.numeral w p q) = if_true _ 4 (decimal w) (and_join _ _ (le-leb _ _ p) (lt-ltb _ _ q))

pub tells_number : (low bound : ℕ) → Tells (number_within low bound) (Numeral low bound)
tells_number low bound = record { told = number_told low bound; tells = number_tells low bound }

-- names

new_told_by : (before : List Name) (w a : Name) (o : Option ℕ) → index_of before w ≡ o → new_by w o ≡ takes a → NewName before a (name w)
new_told_by before w a (Some i) e h = no_take h
new_told_by before w a None e h =
    let p : w ≡ a = cc in
    subst (λ (n : Name). NewName before n (name w)) p (G.new_name w e)

new_told : (before : List Name) (l : Lexeme) (a : Name) → undeclared before l ≡ takes a → NewName before a l
unfolding undeclared
new_told before (name w) a h = new_told_by before w a (index_of before w) refl h
new_told before (number w) a h = no_take h
new_told before (word j) a h = no_take h
new_told before (mark m) a h = no_take h

new_tells : (before : List Name) (a : Name) (l : Lexeme) → NewName before a l → undeclared before l ≡ takes a
unfolding undeclared
new_tells before a l (G.new_name w e) = ap (new_by w) e

pub tells_new : (before : List Name) → Tells (undeclared before) (NewName before)
tells_new before = record { told = new_told before; tells = new_tells before }

known_told_by : (names : List Name) (w : Name) (a : ℕ) (o : Option ℕ) → index_of names w ≡ o → known_by o ≡ takes a → KnownName names a (name w)
known_told_by names w a (Some i) e h =
    let p : i ≡ a = cc in
    subst (λ (n : ℕ). KnownName names n (name w)) p (G.known_name w i e)
known_told_by names w a None e h = no_take h

pub known_told : (names : List Name) (l : Lexeme) (a : ℕ) → declared names l ≡ takes a → KnownName names a l
unfolding declared
known_told names (name w) a h = known_told_by names w a (index_of names w) refl h
known_told names (number w) a h = no_take h
known_told names (word j) a h = no_take h
known_told names (mark m) a h = no_take h

known_tells : (names : List Name) (a : ℕ) (l : Lexeme) → KnownName names a l → declared names l ≡ takes a
unfolding declared
known_tells names a l (G.known_name w i e) = ap known_by e

pub tells_known : (names : List Name) → Tells (declared names) (KnownName names)
tells_known names = record { told = known_told names; tells = known_tells names }

-- region words

pub data RegionIf (few : Bool) : Region → Lexeme → Type 0 where
  region_if : {r : Region} {l : Lexeme} → few ≡ true → RegionWord r l → RegionIf few r l

no_region : {A : Type 0} {r : Region} → ◌≡◌ {A = Option Region} None (Some r) → A
no_region h = let z : ◌≡◌ {A = ℕ} 0 1 = cc in absurd (omega arith)

region_tells_word : (k : Word) (r : Region) → region_of k ≡ Some r → RegionWord r (word k)
region_tells_word Words.Procs r h = no_region h
region_tells_word Words.Vars r h = no_region h
region_tells_word Words.Locs r h = no_region h
region_tells_word Words.Classes r h = no_region h
region_tells_word Words.Cmds r h = no_region h
region_tells_word Words.Idle r h = subst (λ (s : Region). RegionWord s (word Words.Idle)) (cc) G.idle
region_tells_word Words.Try r h = subst (λ (s : Region). RegionWord s (word Words.Try)) (cc) G.try
region_tells_word Words.Crit r h = subst (λ (s : Region). RegionWord s (word Words.Crit)) (cc) G.crit
region_tells_word Words.Exit r h = subst (λ (s : Region). RegionWord s (word Words.Exit)) (cc) G.exit
region_tells_word Words.None r h = no_region h
region_tells_word Words.And r h = no_region h
region_tells_word Words.Or r h = no_region h
region_tells_word Words.Not r h = no_region h

region_told_by : (few : Bool) (k : Word) (a : Region) (o : Option Region) → region_of k ≡ o → region_by few o ≡ takes a → RegionIf few a (word k)
region_told_by few k a (Some r) e h =
    let p = if_takes few 9 r a h in
    region_if p.0 (region_tells_word k a (e ∙ ap (λ s. Some s) p.1))
region_told_by few k a None e h = no_take h

region_told : (few : Bool) (l : Lexeme) (a : Region) → region_word few l ≡ takes a → RegionIf few a l
unfolding region_word
region_told few (name w) a h = no_take h
region_told few (number w) a h = no_take h
region_told few (word k) a h = region_told_by few k a (region_of k) refl h
region_told few (mark m) a h = no_take h

region_tells : (few : Bool) (a : Region) (l : Lexeme) → RegionIf few a l → region_word few l ≡ takes a
unfolding region_word
region_tells few a l (region_if f G.idle) = if_true few 9 _ f
region_tells few a l (region_if f G.try) = if_true few 9 _ f
region_tells few a l (region_if f G.crit) = if_true few 9 _ f
region_tells few a l (region_if f G.exit) = if_true few 9 _ f

pub tells_region : (few : Bool) → Tells (region_word few) (RegionIf few)
tells_region few = record { told = region_told few; tells = region_tells few }

-- classes

class_told : (classes : ℕ) (l : Lexeme) (a : Option ℕ) → class_or_none classes l ≡ takes a → Class classes a l
unfolding class_or_none
class_told classes (name w) a h = no_take h
class_told classes (number w) a h =
    let p = if_takes _ 4 (Some (decimal w)) a h in
    subst (λ (c : Option ℕ). Class classes c (number w)) p.1 (G.a_class w (ltb-true _ _ p.0))
class_told classes (word j) a h =
    let p = if_takes _ 3 None a h in
    subst (λ (i : Word). Class classes a (word i)) (sym (same_word j Words.None p.0)) (subst (λ (c : Option ℕ). Class classes c (word Words.None)) p.1 G.no_class)
class_told classes (mark m) a h = no_take h

class_tells : (classes : ℕ) (a : Option ℕ) (l : Lexeme) → Class classes a l → class_or_none classes l ≡ takes a
unfolding class_or_none
class_tells classes a l (G.a_class w p) = if_true _ 4 (Some (decimal w)) (lt-ltb _ _ p)
class_tells classes a l G.no_class = refl

pub tells_class : (classes : ℕ) → Tells (class_or_none classes) (Class classes)
tells_class classes = record { told = class_told classes; tells = class_tells classes }

-- targets

pub spared_told : (v : ℕ) (before : List Assignment) → spared v before ≡ true → AllByRecursion (Spares v) before
spared_told v [] h = tt
spared_told v (a ∷ rest) h =
    let p = and_split (not (eqb a.target v)) _ h in
    (eqb-false _ _ (not-true _ p.0), spared_told v rest p.1)

pub spared_tells : (v : ℕ) (before : List Assignment) → AllByRecursion (Spares v) before → spared v before ≡ true
spared_tells v [] h = refl
spared_tells v (a ∷ rest) (p, q) = and_join (not (eqb a.target v)) _ (ap not (ne_eqb _ _ p)) (spared_tells v rest q)

target_by_takes : (before : List Assignment) (d : Verdict ℕ) (a : ℕ) → target_by before d ≡ takes a → (d ≡ takes a) × (spared a before ≡ true)
target_by_takes before (takes v) a h =
    let p = if_takes (spared v before) 7 v a h in
    (ap (λ i. takes i) p.1, subst (λ (i : ℕ). spared i before ≡ true) p.1 p.0)
target_by_takes before (refuses n) a h = no_take h

target_told : (variables : List Name) (before : List Assignment) (l : Lexeme) (a : ℕ) → unassigned variables before l ≡ takes a → Target variables before a l
unfolding unassigned
target_told variables before l a h =
    let p = target_by_takes before (declared variables l) a h in
    G.target (known_told variables l a p.0) (spared_told a before p.1)

target_tells : (variables : List Name) (before : List Assignment) (a : ℕ) (l : Lexeme) → Target variables before a l → unassigned variables before l ≡ takes a
unfolding unassigned
target_tells variables before a l (G.target k s) = ap (target_by before) (known_tells variables a l k) ∙ if_true _ 7 a (spared_tells a before s)

pub tells_target : (variables : List Name) (before : List Assignment) → Tells (unassigned variables before) (Target variables before)
tells_target variables before = record { told = target_told variables before; tells = target_tells variables before }

abbrev pub Nothing : List Assignment → Lexeme → Type 0
Nothing a l = ⊥

all_assigned_never : (v : Verdict ℕ) (a : List Assignment) → all_assigned v ≡ takes a → ⊥
all_assigned_never (takes i) a h = no_take h
all_assigned_never (refuses n) a h = no_take h

none_left_told : (variables : List Name) (l : Lexeme) (a : List Assignment) → none_left variables l ≡ takes a → ⊥
unfolding none_left
none_left_told variables l a h = all_assigned_never (declared variables l) a h

pub tells_none_left : (variables : List Name) → Tells (none_left variables) Nothing
tells_none_left variables = record { told = none_left_told variables; tells = λ a l h. absurd h }

-- the first target, or `;`

pub data First (variables : List Name) : Option ℕ → Lexeme → Type 0 where
  a_target : {v : ℕ} {l : Lexeme} → KnownName variables v l → First variables (Some v) l
  no_target : First variables None (mark Marks.Semicolon)

some_takes : (v : Verdict ℕ) (a : Option ℕ) → some_target v ≡ takes a → (i : ℕ) × (v ≡ takes i) × (Some i ≡ a)
some_takes (takes i) a h = (i, refl, cc)
some_takes (refuses n) a h = no_take h

ends_takes : (b : Bool) (a : Option ℕ) → ends_or b ≡ takes a → (b ≡ true) × (None ≡ a)
ends_takes true a h = (refl, cc)
ends_takes false a h = no_take h

first_told : (variables : List Name) (l : Lexeme) (a : Option ℕ) → target_or_end variables l ≡ takes a → First variables a l
unfolding target_or_end
first_told variables (name w) a h =
    let p = some_takes (declared variables (name w)) a h in
    subst (λ (o : Option ℕ). First variables o (name w)) p.2 (a_target (known_told variables (name w) p.0 p.1))
first_told variables (number w) a h = no_take h
first_told variables (word j) a h = no_take h
first_told variables (mark m) a h =
    let p = ends_takes _ a h in
    subst (λ (i : Mark). First variables a (mark i)) (sym (same_mark m Marks.Semicolon p.0)) (subst (λ (o : Option ℕ). First variables o (mark Marks.Semicolon)) p.1 no_target)

first_tells : (variables : List Name) (a : Option ℕ) (l : Lexeme) → First variables a l → target_or_end variables l ≡ takes a
unfolding target_or_end
first_tells variables a l (a_target (G.known_name w i e)) = ap some_target (known_tells variables i (name w) (G.known_name w i e))
first_tells variables a l no_target = refl

pub tells_first : (variables : List Name) → Tells (target_or_end variables) (First variables)
tells_first variables = record { told = first_told variables; tells = first_tells variables }

-- `,` or `;`

pub data After : Bool → Lexeme → Type 0 where
  comma : After true (mark Marks.Comma)
  stop : After false (mark Marks.Semicolon)

after_told_by : (m : Mark) (b c a : Bool) → eqb (mark_number m) (mark_number Marks.Comma) ≡ b → eqb (mark_number m) (mark_number Marks.Semicolon) ≡ c → comma_by b c ≡ takes a → After a (mark m)
after_told_by m true c a p q h =
    let e : true ≡ a = cc in
    subst (λ (i : Mark). After a (mark i)) (sym (same_mark m Marks.Comma p)) (subst (λ (i : Bool). After i (mark Marks.Comma)) e comma)
after_told_by m false true a p q h =
    let e : false ≡ a = cc in
    subst (λ (i : Mark). After a (mark i)) (sym (same_mark m Marks.Semicolon q)) (subst (λ (i : Bool). After i (mark Marks.Semicolon)) e stop)
after_told_by m false false a p q h = no_take h

after_told : (l : Lexeme) (a : Bool) → comma_or_end l ≡ takes a → After a l
unfolding comma_or_end
after_told (name w) a h = no_take h
after_told (number w) a h = no_take h
after_told (word j) a h = no_take h
after_told (mark m) a h = after_told_by m _ _ a refl refl h

after_tells : (a : Bool) (l : Lexeme) → After a l → comma_or_end l ≡ takes a
unfolding comma_or_end
after_tells a l comma = refl
after_tells a l stop = refl

pub tells_after : Tells comma_or_end After
tells_after = record { told = after_told; tells = after_tells }
