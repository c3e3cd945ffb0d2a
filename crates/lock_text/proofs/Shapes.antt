-- What looks like a token, by its first byte; where the longest one ends. Assumes nothing.
use Rattle.std.proofs.Common.{◌≡◌, ℕ, zero, suc, ◌+◌, ◌-◌, ◌<◌, ◌≤◌, Bool, true, false, ◌&&◌, ◌⊎◌, List, [], ◌∷◌, length, get_or, drop, sym, refl, ap, ◌∙◌, subst, inl, inr, add-zero, arith, lit≤, rules}
use Rattle.std.proofs.lemmas.List.{get_or-take, get_or-drop, length-take, length-drop}
use Rattle.std.proofs.lemmas.Bool.{and_parts, both_ways, cases_order, cases_lt, or_left}
use Rattle.lock_text.specs.Characters.{is_letter, is_digit, is_name_byte}
use Rattle.lock_text.specs.Spelling.{Lexeme, name, number, word, mark, word_spelling, mark_spelling, spelling, Each, NameShape, NumberShape, MarkShape, Shape, Reserved, WellFormed, max_name, max_digits}
use Rattle.lock_text.specs.Tokens.{part, TokenAt}
use Rattle.lock_text.specs.Lexing.{RunTo}
use Rattle.lock_text.specs.declared.token.Word.{Word}
use Rattle.lock_text.specs.declared.token.Word.TheVariants.{Procs, Vars, Locs, Classes, Cmds, Idle, Try, Crit, Exit, None, And, Or, Not}
use Rattle.lock_text.specs.declared.token.Mark.{Mark}
use Rattle.lock_text.specs.declared.token.Mark.TheVariants.{Open, Close, Plus, Minus, Assign, Equal, NotEqual, Less, LessEqual, Colon, Semicolon, Comma}

pub part_at : (t : List ℕ) (a e i : ℕ) → i < e - a → get_or (part t a e) i 0 ≡ get_or t (a + i) 0
part_at t a e i h = get_or-take (e - a) (drop a t) i 0 h ∙ get_or-drop a t i 0

pub part_first : (t : List ℕ) (a e : ℕ) → a < e → get_or (part t a e) 0 0 ≡ get_or t a 0
part_first t a e h = part_at t a e 0 (omega arith) ∙ ap (λ n. get_or t n 0) (add-zero a)

pub part_length : (t : List ℕ) (a e : ℕ) → e ≤ length t → length (part t a e) ≡ e - a
part_length t a e h = let p = length-take (e - a) (drop a t) in let q = length-drop a t in omega arith

-- no byte is of two kinds

pub letter_no_digit : (b : ℕ) → is_letter b ≡ true → is_digit b ≡ true → ⊥
letter_no_digit b l d = grind (arith, rules)

-- a test that passes at each byte of a list, computed
abbrev all : (ℕ → Bool) → List ℕ → Bool
all f [] = true
all f (b ∷ w) = f b && all f w

all_each : (f : ℕ → Bool) (w : List ℕ) → all f w ≡ true → Each f w
all_each f [] e i h = absurd (let z : ⊥ = omega arith in z)
all_each f (b ∷ w) e zero h = (and_parts (f b) (all f w) e).0
all_each f (b ∷ w) e (suc i) h = all_each f w (and_parts (f b) (all f w) e).1 i (omega arith)

-- what looks like a token is told by its first byte

pub mark_no_letter : (m : Mark) → is_letter (get_or (mark_spelling m) 0 0) ≡ false
mark_no_letter Open = refl
mark_no_letter Close = refl
mark_no_letter Plus = refl
mark_no_letter Minus = refl
mark_no_letter Assign = refl
mark_no_letter Equal = refl
mark_no_letter NotEqual = refl
mark_no_letter Less = refl
mark_no_letter LessEqual = refl
mark_no_letter Colon = refl
mark_no_letter Semicolon = refl
mark_no_letter Comma = refl

pub mark_no_digit : (m : Mark) → is_digit (get_or (mark_spelling m) 0 0) ≡ false
mark_no_digit Open = refl
mark_no_digit Close = refl
mark_no_digit Plus = refl
mark_no_digit Minus = refl
mark_no_digit Assign = refl
mark_no_digit Equal = refl
mark_no_digit NotEqual = refl
mark_no_digit Less = refl
mark_no_digit LessEqual = refl
mark_no_digit Colon = refl
mark_no_digit Semicolon = refl
mark_no_digit Comma = refl

pub letter_name : (w : List ℕ) → is_letter (get_or w 0 0) ≡ true → Shape w → NameShape w
letter_name w l (inl n) = n
letter_name w l (inr (inl d)) = absurd (letter_no_digit (get_or w 0 0) l (d.1 0 d.0))
letter_name w l (inr (inr (m, e))) =
    absurd (both_ways (is_letter (get_or w 0 0)) (ap (λ v. is_letter (get_or v 0 0)) e ∙ mark_no_letter m) l)

pub digit_number : (w : List ℕ) → is_digit (get_or w 0 0) ≡ true → Shape w → NumberShape w
digit_number w d (inl n) = absurd (letter_no_digit (get_or w 0 0) n.0 d)
digit_number w d (inr (inl s)) = s
digit_number w d (inr (inr (m, e))) =
    absurd (both_ways (is_digit (get_or w 0 0)) (ap (λ v. is_digit (get_or v 0 0)) e ∙ mark_no_digit m) d)

pub other_mark : (w : List ℕ) → is_letter (get_or w 0 0) ≡ false → is_digit (get_or w 0 0) ≡ false → Shape w → MarkShape w
other_mark w l d (inl n) = absurd (both_ways (is_letter (get_or w 0 0)) l n.0)
other_mark w l d (inr (inl s)) = absurd (both_ways (is_digit (get_or w 0 0)) d (s.1 0 s.0))
other_mark w l d (inr (inr m)) = m

word_all : (k : Word) → all is_name_byte (word_spelling k) ≡ true
word_all Procs = refl
word_all Vars = refl
word_all Locs = refl
word_all Classes = refl
word_all Cmds = refl
word_all Idle = refl
word_all Try = refl
word_all Crit = refl
word_all Exit = refl
word_all None = refl
word_all And = refl
word_all Or = refl
word_all Not = refl

pub word_letter : (k : Word) → is_letter (get_or (word_spelling k) 0 0) ≡ true
word_letter Procs = refl
word_letter Vars = refl
word_letter Locs = refl
word_letter Classes = refl
word_letter Cmds = refl
word_letter Idle = refl
word_letter Try = refl
word_letter Crit = refl
word_letter Exit = refl
word_letter None = refl
word_letter And = refl
word_letter Or = refl
word_letter Not = refl

pub word_short : (k : Word) → length (word_spelling k) ≤ 7
word_short Procs = lit≤ tt
word_short Vars = lit≤ tt
word_short Locs = lit≤ tt
word_short Classes = lit≤ tt
word_short Cmds = lit≤ tt
word_short Idle = lit≤ tt
word_short Try = lit≤ tt
word_short Crit = lit≤ tt
word_short Exit = lit≤ tt
word_short None = lit≤ tt
word_short And = lit≤ tt
word_short Or = lit≤ tt
word_short Not = lit≤ tt

pub well_formed_shape : (l : Lexeme) → WellFormed l → Shape (spelling l)
well_formed_shape (name w) h = inl h.0
well_formed_shape (number w) h = inr (inl h.0)
well_formed_shape (word k) h = inl (word_letter k, all_each is_name_byte (word_spelling k) (word_all k))
well_formed_shape (mark m) h = inr (inr (m, refl))

pub token_shape : (t : List ℕ) (a : ℕ) (l : Lexeme) (e : ℕ) → TokenAt t a l e → Shape (part t a e)
token_shape t a l e k = subst (λ (w : List ℕ). Shape w) k.spelt (well_formed_shape l k.well_formed)

-- where the longest one ends

abbrev pub Longest : List ℕ → ℕ → ℕ → Type 0
Longest t a e = (f : ℕ) → e < f → f ≤ length t → ¬ Shape (part t a f)

pub same_end : (t : List ℕ) (a e : ℕ) → e ≤ length t → Shape (part t a e) → Longest t a e → (l : Lexeme) (f : ℕ) → TokenAt t a l f → f ≡ e
same_end t a e h s longest l f k = by (cases_order f e)
  where
    by : (f ≡ e) ⊎ ((f < e) ⊎ (e < f)) → f ≡ e
    by (inl same) = same
    by (inr (inl less)) = absurd (k.longest e less h s)
    by (inr (inr more)) = absurd (longest f more k.within (token_shape t a l f k))

-- a byte that does not pass ends a run of those that do
each_stops : (g : ℕ → Bool) (t : List ℕ) (a e f : ℕ) → a ≤ e → e < f → f ≤ length t → g (get_or t e 0) ≡ false → Each g (part t a f) → ⊥
each_stops g t a e f ae ef ft fails each =
    let i : e - a < f - a = omega arith in
    let len = part_length t a f ft in
    let at : get_or (part t a f) (e - a) 0 ≡ get_or t e 0 = part_at t a f (e - a) i ∙ ap (λ n. get_or t n 0) (let s : a + (e - a) ≡ e = omega arith in s) in
    both_ways (g (get_or t e 0)) fails (sym (ap g at) ∙ each (e - a) (omega arith))

run_each : (g : ℕ → Bool) (t : List ℕ) (a e : ℕ) → RunTo g t a e → e ≤ length t → Each g (part t a e)
run_each g t a e run et i h =
    let len = part_length t a e et in
    let s : i < e - a = omega arith in
    ap g (part_at t a e i s) ∙ run.each (a + i) (omega arith) (omega arith)

-- a run of at least one byte, from a byte on that passes
run_some : (g : ℕ → Bool) (t : List ℕ) (a e : ℕ) → RunTo g t a e → a < length t → g (get_or t a 0) ≡ true → a < e
run_some g t a e run h passes = by (cases_lt a e)
  where
    by : (a < e) ⊎ (e ≤ a) → a < e
    by (inl less) = less
    by (inr most) =
        let same : e ≡ a = omega (arith, run.after) in
        absurd (both_ways (g (get_or t a 0)) (subst (λ (n : ℕ). g (get_or t n 0) ≡ false) same (run.stops (omega arith))) passes)

pub record Ends (t : List ℕ) (a e : ℕ) : Type 0 where
  pub some_bytes : a < e
  pub within : e ≤ length t
  pub looks : Shape (part t a e)
  pub longest : Longest t a e

pub letter_name_byte : (b : ℕ) → is_letter b ≡ true → is_name_byte b ≡ true
letter_name_byte b l = or_left (is_letter b) _ l

pub name_ends : (t : List ℕ) (a e : ℕ) → a < length t → is_letter (get_or t a 0) ≡ true → RunTo is_name_byte t a e → Ends t a e
name_ends t a e h l run =
    let some : a < e = run_some is_name_byte t a e run h (letter_name_byte (get_or t a 0) l) in
    let et : e ≤ length t = run.within (omega arith) in
    record {
      some_bytes = some;
      within = et;
      looks = inl (ap is_letter (part_first t a e some) ∙ l, run_each is_name_byte t a e run et);
      longest = λ f ef ft s.
          let first : is_letter (get_or (part t a f) 0 0) ≡ true = ap is_letter (part_first t a f (omega arith)) ∙ l in
          each_stops is_name_byte t a e f (omega arith) ef ft (run.stops (omega arith)) (letter_name (part t a f) first s).1;
    }

pub number_ends : (t : List ℕ) (a e : ℕ) → a < length t → is_digit (get_or t a 0) ≡ true → RunTo is_digit t a e → Ends t a e
number_ends t a e h d run =
    let some : a < e = run_some is_digit t a e run h d in
    let et : e ≤ length t = run.within (omega arith) in
    let len = part_length t a e et in
    record {
      some_bytes = some;
      within = et;
      looks = inr (inl (omega arith, run_each is_digit t a e run et));
      longest = λ f ef ft s.
          let first : is_digit (get_or (part t a f) 0 0) ≡ true = ap is_digit (part_first t a f (omega arith)) ∙ d in
          each_stops is_digit t a e f (omega arith) ef ft (run.stops (omega arith)) (digit_number (part t a f) first s).1;
    }

-- the token with the bytes of the longest, and that there is none where no token is spelt so

pub ends_token : (t : List ℕ) (a e : ℕ) (l : Lexeme) → Ends t a e → spelling l ≡ part t a e → WellFormed l → TokenAt t a l e
ends_token t a e l k s w = record { some_bytes = k.some_bytes; within = k.within; spelt = s; well_formed = w; longest = k.longest }

pub ends_none : (t : List ℕ) (a e : ℕ) → Ends t a e → ((l : Lexeme) → spelling l ≡ part t a e → ¬ WellFormed l) → (l : Lexeme) (f : ℕ) → ¬ TokenAt t a l f
ends_none t a e k none l f token =
    let same : f ≡ e = same_end t a e k.within k.looks k.longest l f token in
    none l (token.spelt ∙ ap (part t a) same) token.well_formed

-- a name or a number past its limit

pub long_name : (t : List ℕ) (a e : ℕ) → Ends t a e → is_letter (get_or t a 0) ≡ true → max_name < e - a → (l : Lexeme) → spelling l ≡ part t a e → ¬ WellFormed l
long_name t a e k first h (name w) s (n, few, fresh) = let len = ap length s ∙ part_length t a e k.within in omega arith
long_name t a e k first h (number w) s (n, few) = let len = ap length s ∙ part_length t a e k.within in omega arith
long_name t a e k first h (word v) s u = let len = ap length s ∙ part_length t a e k.within in omega (arith, word_short v)
long_name t a e k first h (mark m) s u =
    both_ways (is_letter (get_or t a 0)) (sym (ap is_letter (ap (λ w. get_or w 0 0) s ∙ part_first t a e k.some_bytes)) ∙ mark_no_letter m) first

pub long_number : (t : List ℕ) (a e : ℕ) → Ends t a e → is_digit (get_or t a 0) ≡ true → max_digits < e - a → (l : Lexeme) → spelling l ≡ part t a e → ¬ WellFormed l
long_number t a e k first h (name w) s (n, few, fresh) =
    letter_no_digit (get_or t a 0) (sym (ap is_letter (ap (λ w. get_or w 0 0) s ∙ part_first t a e k.some_bytes)) ∙ n.0) first
long_number t a e k first h (number w) s (n, few) = let len = ap length s ∙ part_length t a e k.within in omega arith
long_number t a e k first h (word v) s u =
    letter_no_digit (get_or t a 0) (sym (ap is_letter (ap (λ w. get_or w 0 0) s ∙ part_first t a e k.some_bytes)) ∙ word_letter v) first
long_number t a e k first h (mark m) s u =
    both_ways (is_digit (get_or t a 0)) (sym (ap is_digit (ap (λ w. get_or w 0 0) s ∙ part_first t a e k.some_bytes)) ∙ mark_no_digit m) first

-- names, reserved words and numbers within their limits

pub number_token : (t : List ℕ) (a e : ℕ) → a < length t → is_digit (get_or t a 0) ≡ true → RunTo is_digit t a e → e - a ≤ max_digits → TokenAt t a (number (part t a e)) e
number_token t a e h d run few =
    let k = number_ends t a e h d run in
    let first : is_digit (get_or (part t a e) 0 0) ≡ true = ap is_digit (part_first t a e k.some_bytes) ∙ d in
    let len = part_length t a e k.within in
    ends_token t a e (number (part t a e)) k refl (digit_number (part t a e) first k.looks, omega arith)

pub name_token : (t : List ℕ) (a e : ℕ) → Ends t a e → is_letter (get_or t a 0) ≡ true → e - a ≤ max_name → ¬ Reserved (part t a e) → TokenAt t a (name (part t a e)) e
name_token t a e k l few fresh =
    let first : is_letter (get_or (part t a e) 0 0) ≡ true = ap is_letter (part_first t a e k.some_bytes) ∙ l in
    let len = part_length t a e k.within in
    ends_token t a e (name (part t a e)) k refl (letter_name (part t a e) first k.looks, omega arith, fresh)

pub word_token : (t : List ℕ) (a e : ℕ) → Ends t a e → (k : Word) → part t a e ≡ word_spelling k → TokenAt t a (word k) e
word_token t a e ends k is = ends_token t a e (word k) ends (sym is) tt
