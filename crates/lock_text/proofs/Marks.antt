-- The longest mark at a place. Assumes nothing.
use Rattle.std.proofs.Common.{◌≡◌, ℕ, zero, suc, ◌+◌, ◌-◌, ◌<◌, ◌≤◌, Bool, true, false, eqb, ◌⊎◌, List, [], ◌∷◌, length, get_or, Some, None, Option, sym, refl, ap, ◌∙◌, subst, inl, inr, arith, lit≤}
use Rattle.std.proofs.lemmas.List.{ext_get_or, get_or_past}
use Rattle.std.proofs.lemmas.Bool.{eqb-true, eq-eqb, false≢true, cases_lt}
use Rattle.lock_text.specs.Characters.{is_letter, is_digit}
use Rattle.lock_text.specs.Spelling.{Lexeme, mark, mark_spelling, Shape, MarkShape}
use Rattle.lock_text.specs.Tokens.{part, TokenAt}
use Rattle.lock_text.specs.Lexing.{longest_mark, BeginsMark}
use Rattle.lock_text.specs.declared.token.Mark.{Mark}
use Rattle.lock_text.specs.declared.token.Mark.TheVariants.{Open, Close, Plus, Minus, Assign, Equal, NotEqual, Less, LessEqual, Colon, Semicolon, Comma}
use Rattle.lock_text.proofs.Shapes.{part_at, part_first, part_length, other_mark, token_shape, Ends, ends_token}

abbrev head : Mark → ℕ
head m = get_or (mark_spelling m) 0 0

forms : (m : Mark) → (mark_spelling m ≡ head m ∷ []) ⊎ (mark_spelling m ≡ head m ∷ 0x3d ∷ [])
forms Open = inl refl
forms Close = inl refl
forms Plus = inl refl
forms Minus = inl refl
forms Assign = inl refl
forms Equal = inr refl
forms NotEqual = inr refl
forms Less = inl refl
forms LessEqual = inr refl
forms Colon = inl refl
forms Semicolon = inl refl
forms Comma = inl refl

-- the longest mark with this first byte is as long as m
abbrev Covered : Mark → Bool → Type 0
Covered m followed = (n : Mark) × (longest_mark (head m) followed ≡ Some n) × (length (mark_spelling m) ≤ length (mark_spelling n))

covered : (m : Mark) (followed : Bool) → (2 ≤ length (mark_spelling m) → followed ≡ true) → Covered m followed
covered Open f h = (Open, refl, lit≤ tt)
covered Close f h = (Close, refl, lit≤ tt)
covered Plus f h = (Plus, refl, lit≤ tt)
covered Minus f h = (Minus, refl, lit≤ tt)
covered Assign true h = (Equal, refl, lit≤ tt)
covered Assign false h = (Assign, refl, lit≤ tt)
covered Equal true h = (Equal, refl, lit≤ tt)
covered Equal false h = absurd (false≢true (h (lit≤ tt)))
covered NotEqual true h = (NotEqual, refl, lit≤ tt)
covered NotEqual false h = absurd (false≢true (h (lit≤ tt)))
covered Less true h = (LessEqual, refl, lit≤ tt)
covered Less false h = (Less, refl, lit≤ tt)
covered LessEqual true h = (LessEqual, refl, lit≤ tt)
covered LessEqual false h = absurd (false≢true (h (lit≤ tt)))
covered Colon f h = (Colon, refl, lit≤ tt)
covered Semicolon f h = (Semicolon, refl, lit≤ tt)
covered Comma f h = (Comma, refl, lit≤ tt)

-- a mark that stands at a: its first byte is there, and = behind it if it has two
at_place : (t : List ℕ) (a f : ℕ) → a < f → f ≤ length t → (m : Mark) → part t a f ≡ mark_spelling m →
    (head m ≡ get_or t a 0) × (2 ≤ length (mark_spelling m) → eqb (get_or t (a + 1) 0) 0x3d ≡ true)
at_place t a f af ft m e = (sym (ap (λ w. get_or w 0 0) e) ∙ part_first t a f af, second (forms m))
  where
    second : (mark_spelling m ≡ head m ∷ []) ⊎ (mark_spelling m ≡ head m ∷ 0x3d ∷ []) → 2 ≤ length (mark_spelling m) → eqb (get_or t (a + 1) 0) 0x3d ≡ true
    second (inl one) h = absurd (let l = ap length one in let z : ⊥ = omega arith in z)
    second (inr two) h =
        let len = part_length t a f ft in
        let l = ap length (e ∙ two) in
        let there : 1 < f - a = omega arith in
        eq-eqb (get_or t (a + 1) 0) 0x3d (sym (part_at t a f 1 there) ∙ ap (λ w. get_or w 1 0) (e ∙ two))

-- so the longest mark there is no shorter
longest_covers : (t : List ℕ) (a f : ℕ) → a < f → f ≤ length t → (m : Mark) → part t a f ≡ mark_spelling m →
    (n : Mark) × (longest_mark (get_or t a 0) (eqb (get_or t (a + 1) 0) 0x3d) ≡ Some n) × (f - a ≤ length (mark_spelling n))
longest_covers t a f af ft m e =
    let place = at_place t a f af ft m e in
    let cov = covered m (eqb (get_or t (a + 1) 0) 0x3d) place.1 in
    let len = part_length t a f ft in
    let l = ap length e in
    let few = cov.2 in
    (cov.0, ap (λ b. longest_mark b (eqb (get_or t (a + 1) 0) 0x3d)) (sym place.0) ∙ cov.1, omega arith)

no_shape : (t : List ℕ) (a f : ℕ) → a < f → is_letter (get_or t a 0) ≡ false → is_digit (get_or t a 0) ≡ false → Shape (part t a f) → MarkShape (part t a f)
no_shape t a f af l d s = other_mark (part t a f) (ap is_letter (part_first t a f af) ∙ l) (ap is_digit (part_first t a f af) ∙ d) s

pub no_mark : (t : List ℕ) (a : ℕ) (followed : Bool) → is_letter (get_or t a 0) ≡ false → is_digit (get_or t a 0) ≡ false →
    followed ≡ eqb (get_or t (a + 1) 0) 0x3d → None ≡ longest_mark (get_or t a 0) followed → (l : Lexeme) (e : ℕ) → ¬ TokenAt t a l e
no_mark t a followed nl nd fo none l e token =
    let found = no_shape t a e token.some_bytes nl nd (token_shape t a l e token) in
    let some = (longest_covers t a e token.some_bytes token.within found.0 found.1).1 in
    let same = none ∙ ap (longest_mark (get_or t a 0)) fo in
    let z : ◌≡◌ {A = ℕ} 0 1 = cc in omega arith

one_byte : (t : List ℕ) (a : ℕ) → a < length t → part t a (a + 1) ≡ get_or t a 0 ∷ []
one_byte t a h =
    ext_get_or 0 (part t a (a + 1)) (get_or t a 0 ∷ []) (part_length t a (a + 1) (omega arith) ∙ (let s : a + 1 - a ≡ 1 = omega arith in s)) at
  where
    at : (i : ℕ) → i < length (part t a (a + 1)) → get_or (part t a (a + 1)) i 0 ≡ get_or (get_or t a 0 ∷ []) i 0
    at zero k = part_first t a (a + 1) (omega arith)
    at (suc i) k = absurd (let len = part_length t a (a + 1) (omega arith) in let z : ⊥ = omega arith in z)

two_bytes : (t : List ℕ) (a : ℕ) → a + 1 < length t → part t a (a + 2) ≡ get_or t a 0 ∷ get_or t (a + 1) 0 ∷ []
two_bytes t a h =
    ext_get_or 0 (part t a (a + 2)) (get_or t a 0 ∷ get_or t (a + 1) 0 ∷ []) (part_length t a (a + 2) (omega arith) ∙ (let s : a + 2 - a ≡ 2 = omega arith in s)) at
  where
    at : (i : ℕ) → i < length (part t a (a + 2)) → get_or (part t a (a + 2)) i 0 ≡ get_or (get_or t a 0 ∷ get_or t (a + 1) 0 ∷ []) i 0
    at zero k = part_first t a (a + 2) (omega arith)
    at (suc zero) k = part_at t a (a + 2) 1 (omega arith)
    at (suc (suc i)) k = absurd (let len = part_length t a (a + 2) (omega arith) in let z : ⊥ = omega arith in z)

-- a byte that is = stands in the text
equals_inside : (t : List ℕ) (i : ℕ) → eqb (get_or t i 0) 0x3d ≡ true → i < length t
equals_inside t i e = by (cases_lt i (length t))
  where
    by : (i < length t) ⊎ (length t ≤ i) → i < length t
    by (inl h) = h
    by (inr h) = absurd (let past = get_or_past t i 0 h in let is = eqb-true (get_or t i 0) 0x3d e in let z : ⊥ = omega arith in z)

spelt_there : (t : List ℕ) (a : ℕ) → a < length t → (m : Mark) → BeginsMark (get_or t a 0) (eqb (get_or t (a + 1) 0) 0x3d) m →
    (mark_spelling m ≡ part t a (a + length (mark_spelling m))) × (a + length (mark_spelling m) ≤ length t) × (1 ≤ length (mark_spelling m))
spelt_there t a h m (inl one) =
    let len = ap length one in
    let end : a + length (mark_spelling m) ≡ a + 1 = omega arith in
    (one ∙ sym (one_byte t a h) ∙ ap (part t a) (sym end), omega arith, omega arith)
spelt_there t a h m (inr (two, followed)) =
    let len = ap length two in
    let inside = equals_inside t (a + 1) followed in
    let end : a + length (mark_spelling m) ≡ a + 2 = omega arith in
    let is = eqb-true (get_or t (a + 1) 0) 0x3d followed in
    (two ∙ ap (λ b. get_or t a 0 ∷ b ∷ []) (sym is) ∙ sym (two_bytes t a inside) ∙ ap (part t a) (sym end), omega arith, omega arith)

pub mark_ends : (t : List ℕ) (a : ℕ) → a < length t → is_letter (get_or t a 0) ≡ false → is_digit (get_or t a 0) ≡ false → (m : Mark) →
    longest_mark (get_or t a 0) (eqb (get_or t (a + 1) 0) 0x3d) ≡ Some m → BeginsMark (get_or t a 0) (eqb (get_or t (a + 1) 0) 0x3d) m →
    Ends t a (a + length (mark_spelling m)) × (mark_spelling m ≡ part t a (a + length (mark_spelling m)))
mark_ends t a h nl nd m is begins =
    let there = spelt_there t a h m begins in
    let some = there.2 in (
      record {
        some_bytes = omega arith;
        within = there.1;
        looks = inr (inr (m, sym there.0));
        longest = λ f more ft s.
            let af : a < f = omega arith in
            let found = no_shape t a f af nl nd s in
            let cov = longest_covers t a f af ft found.0 found.1 in
            let same : m ≡ cov.0 = some_is m cov.0 (sym is ∙ cov.1) in
            let len = ap (λ n. length (mark_spelling n)) same in
            let few = cov.2 in
            omega arith;
      },
      there.0,
    )
  where
    some_is : (m n : Mark) → ◌≡◌ {A = Option Mark} (Some m) (Some n) → m ≡ n
    some_is m n e = cc

pub mark_token : (t : List ℕ) (a : ℕ) (followed : Bool) (width : ℕ) → a < length t → is_letter (get_or t a 0) ≡ false → is_digit (get_or t a 0) ≡ false → (m : Mark) →
    followed ≡ eqb (get_or t (a + 1) 0) 0x3d → Some m ≡ longest_mark (get_or t a 0) followed → BeginsMark (get_or t a 0) followed m → width ≡ length (mark_spelling m) →
    TokenAt t a (mark m) (a + width)
mark_token t a followed width h nl nd m fo is begins w =
    let k = mark_ends t a h nl nd m (sym (is ∙ ap (longest_mark (get_or t a 0)) fo)) (subst (λ (b : Bool). BeginsMark (get_or t a 0) b m) fo begins) in
    subst (λ (n : ℕ). TokenAt t a (mark m) (a + n)) (sym w) (ends_token t a (a + length (mark_spelling m)) (mark m) k.0 k.1 tt)
