-- Each text is one stream of tokens, and the computed one is it. Assumes nothing.
use Rattle.std.proofs.Common.{◌≡◌, ℕ, zero, suc, ◌+◌, ◌-◌, ◌<◌, ◌≤◌, Bool, true, false, cond, eqb, leb, ◌⊎◌, List, [], ◌∷◌, length, get_or, take, drop, Some, None, Option, sym, refl, ap, ◌∙◌, subst, inl, inr, arith}
use Rattle.std.specs.Str.{bytes_eq}
use Rattle.std.proofs.lemmas.Slice.Eq.{bytes_eq-Decides}
use Rattle.std.proofs.lemmas.List.{get_or-drop, length-drop, drop-drop, drop_all, drop_more}
use Rattle.std.proofs.lemmas.Bool.{leb-true, leb-false, eqb-true, cases_Bool, cases_lt, cond_both}
use Rattle.lock_text.specs.Characters.{is_blank, is_letter, is_digit, is_name_byte}
use Rattle.lock_text.specs.Spelling.{Lexeme, name, number, word_spelling, mark_spelling, max_name, max_digits}
use Rattle.lock_text.specs.Tokens.{part, Blanks, TokenAt, NextToken}
use Rattle.lock_text.specs.Lexing.{RunTo, longest_mark, BeginsMark}
use Rattle.lock_text.specs.declared.token.Word.{Word}
use Rattle.lock_text.specs.declared.token.Word.TheVariants.{Procs, Vars, Locs, Classes, Cmds, Idle, Try, Crit, Exit, And, Or, Not}
use Rattle.lock_text.specs.declared.token.Word.TheVariants as Words
use Rattle.lock_text.specs.declared.token.Mark.{Mark}
use Rattle.lock_text.specs.declared.token.Mark.TheVariants.{Open, Close, Plus, Minus, Assign, Equal, NotEqual, Less, LessEqual, Colon, Semicolon, Comma}
use Rattle.lock_text.proofs.Shapes.{Ends, name_ends, number_ends, name_token, word_token, number_token, ends_none, long_name, long_number}
use Rattle.lock_text.proofs.Marks.{no_mark, mark_token}
use Rattle.lock_text.proofs.One.{one_next, next_not_none, next_not_fault, none_not_fault, same_place, fault_no_blank, token_no_blank}
use Rattle.token_stream.specs.Streams.{Stream, token, fault, end, Streams, StreamsAreOne}
use Rattle.token_stream.specs.Computed.{all_words, named_among, word_named, run_length, name_or_word, name_front, number_front, mark_front, front, stream_after, stream_at, stream_from, StreamOfText}

-- at most one

same_head : (t : List ℕ) (a : ℕ) (l m : Lexeme) (s e u f : ℕ) → NextToken t a l s e → NextToken t a m u f → s ≡ u
same_head t a l m s e u f k n =
    same_place t a s u k.after n.after k.blanks n.blanks
    (let h = k.token.some_bytes in let w = k.token.within in omega arith) (let h = n.token.some_bytes in let w = n.token.within in omega arith)
    (token_no_blank t s l e k.token) (token_no_blank t u m f n.token)

pub streams_are_one : StreamsAreOne
streams_are_one t a (token l s x) (token m u y) (e, k, h) (f, n, g) =
    let same = one_next t a l m s e u f k n in
    let rest : x ≡ y = streams_are_one t f x y (subst (λ (i : ℕ). Streams t i x) same.1 h) g in
    ap (λ z. token z s x) same.0 ∙ ap (λ i. token m i x) (same_head t a l m s e u f k n) ∙ ap (token m u) rest
streams_are_one t a (token l s x) (fault u) (e, k, h) n = absurd (next_not_fault t a l s e u k n)
streams_are_one t a (token l s x) (end n) (e, k, h) (none, is) = absurd (next_not_none t a l s e k none)
streams_are_one t a (fault s) (token m u y) k (f, n, g) = absurd (next_not_fault t a m u f s n k)
streams_are_one t a (fault s) (fault u) k n =
    ap fault (same_place t a s u k.after n.after k.blanks n.blanks k.within n.within (fault_no_blank t a s k) (fault_no_blank t a u n))
streams_are_one t a (fault s) (end n) k (none, is) = absurd (none_not_fault t a s none k)
streams_are_one t a (end n) (token m u y) (none, is) (f, k, g) = absurd (next_not_none t a m u f k none)
streams_are_one t a (end n) (fault u) (none, is) k = absurd (none_not_fault t a u none k)
streams_are_one t a (end n) (end o) (none, is) (more, also) = ap end (is ∙ sym also)

-- a computed run

run_here : (f : ℕ → Bool) (b : ℕ) (w : List ℕ) → f b ≡ true → run_length f (b ∷ w) ≡ run_length f w + 1
unfolding run_length
run_here f b w e = ap (λ c. cond c (run_length f w + 1) 0) e

run_stops : (f : ℕ → Bool) (b : ℕ) (w : List ℕ) → f b ≡ false → run_length f (b ∷ w) ≡ 0
unfolding run_length
run_stops f b w e = ap (λ c. cond c (run_length f w + 1) 0) e

run_empty : (f : ℕ → Bool) → run_length f [] ≡ 0
unfolding run_length
run_empty f = refl

-- the bytes in front that pass, counted within the list itself
pub record Counted (f : ℕ → Bool) (w : List ℕ) (n : ℕ) : Type 0 where
  pub within : n ≤ length w
  pub each : (i : ℕ) → i < n → f (get_or w i 0) ≡ true
  pub stops : n < length w → f (get_or w n 0) ≡ false

-- one byte more that passes
counted_more : (f : ℕ → Bool) (b : ℕ) (w : List ℕ) (n : ℕ) → f b ≡ true → Counted f w n → Counted f (b ∷ w) (suc n)
counted_more f b w n e k = let most : n ≤ length w = k.within in record { within = omega arith; each = at; stops = λ h. k.stops (omega arith) }
  where
    at : (i : ℕ) → i < suc n → f (get_or (b ∷ w) i 0) ≡ true
    at zero h = e
    at (suc i) h = k.each i (omega arith)

counted_none : (f : ℕ → Bool) (w : List ℕ) → (0 < length w → f (get_or w 0 0) ≡ false) → Counted f w 0
counted_none f w stops = record { within = omega arith; each = λ i h. absurd (let z : ⊥ = omega arith in z); stops = stops }

counted : (f : ℕ → Bool) (w : List ℕ) → Counted f w (run_length f w)
counted f [] = subst (Counted f []) (sym (run_empty f)) (counted_none f [] (λ h. absurd (let z : ⊥ = omega arith in z)))
counted f (b ∷ w) = by (counted f w) (cases_Bool (f b))
  where
    by : Counted f w (run_length f w) → (f b ≡ true) ⊎ (f b ≡ false) → Counted f (b ∷ w) (run_length f (b ∷ w))
    by k (inl e) =
        subst (Counted f (b ∷ w)) (let s : suc (run_length f w) ≡ run_length f (b ∷ w) = omega (arith, run_here f b w e) in s) (counted_more f b w (run_length f w) e k)
    by k (inr e) = subst (Counted f (b ∷ w)) (sym (run_stops f b w e)) (counted_none f (b ∷ w) (λ h. e))

-- the same as a run in the text
run_to : (f : ℕ → Bool) (t : List ℕ) (a n : ℕ) → a ≤ length t → Counted f (drop a t) n → RunTo f t a (a + n)
run_to f t a n h k =
    let len = length-drop a t in
    let most = k.within in
    record {
      after = omega arith;
      within = λ _. omega arith;
      beyond = λ past. omega arith;
      each = λ i ai ie.
          let s : a + (i - a) ≡ i = omega arith in
          sym (ap f (get_or-drop a t (i - a) 0 ∙ ap (λ j. get_or t j 0) s)) ∙ k.each (i - a) (omega arith);
      stops = λ less. sym (ap f (get_or-drop a t n 0)) ∙ k.stops (omega arith);
    }

-- reserved words by their bytes

abbrev Among : Word → List Word → Type 0
Among k [] = ⊥
Among k (j ∷ ks) = (k ≡ j) ⊎ Among k ks

all_among : (k : Word) → Among k all_words
all_among Procs = inl refl
all_among Vars = inr (inl refl)
all_among Locs = inr (inr (inl refl))
all_among Classes = inr (inr (inr (inl refl)))
all_among Cmds = inr (inr (inr (inr (inl refl))))
all_among Idle = inr (inr (inr (inr (inr (inl refl)))))
all_among Try = inr (inr (inr (inr (inr (inr (inl refl))))))
all_among Crit = inr (inr (inr (inr (inr (inr (inr (inl refl)))))))
all_among Exit = inr (inr (inr (inr (inr (inr (inr (inr (inl refl))))))))
all_among Words.None = inr (inr (inr (inr (inr (inr (inr (inr (inr (inl refl)))))))))
all_among And = inr (inr (inr (inr (inr (inr (inr (inr (inr (inr (inl refl))))))))))
all_among Or = inr (inr (inr (inr (inr (inr (inr (inr (inr (inr (inr (inl refl)))))))))))
all_among Not = inr (inr (inr (inr (inr (inr (inr (inr (inr (inr (inr (inr (inl refl))))))))))))

named_is : (ks : List Word) (w : List ℕ) (k : Word) → named_among ks w ≡ Some k → w ≡ word_spelling k
named_is [] w k e = absurd (let z : ◌≡◌ {A = ℕ} 0 1 = cc in let f : ⊥ = omega arith in f)
named_is (j ∷ ks) w k e = by (cases_Bool (bytes_eq w (word_spelling j))) (λ r. named_is ks w k r)
  where
    by : (bytes_eq w (word_spelling j) ≡ true) ⊎ (bytes_eq w (word_spelling j) ≡ false) → (named_among ks w ≡ Some k → w ≡ word_spelling k) → w ≡ word_spelling k
    by (inl y) later =
        let same : Some j ≡ Some k = sym (ap (λ b. cond b (Some j) (named_among ks w)) y) ∙ e in
        let is : j ≡ k = cc in
        (bytes_eq-Decides w (word_spelling j)).0 y ∙ ap word_spelling is
    by (inr n) later = later (sym (ap (λ b. cond b (Some j) (named_among ks w)) n) ∙ e)

named_none : (ks : List Word) (w : List ℕ) (k : Word) → Among k ks → w ≡ word_spelling k → named_among ks w ≡ None → ⊥
named_none [] w k among is e = elim among [ ]
named_none (j ∷ ks) w k (inl q) is e =
    let y : bytes_eq w (word_spelling j) ≡ true = (bytes_eq-Decides w (word_spelling j)).1 (is ∙ ap word_spelling q) in
    let some : Some j ≡ None = sym (ap (λ b. cond b (Some j) (named_among ks w)) y) ∙ e in
    let z : ◌≡◌ {A = ℕ} 0 1 = cc in omega arith
named_none (j ∷ ks) w k (inr more) is e = by (cases_Bool (bytes_eq w (word_spelling j))) (λ r. named_none ks w k more is r)
  where
    by : (bytes_eq w (word_spelling j) ≡ true) ⊎ (bytes_eq w (word_spelling j) ≡ false) → (named_among ks w ≡ None → ⊥) → ⊥
    by (inl y) later =
        let some : Some j ≡ None = sym (ap (λ b. cond b (Some j) (named_among ks w)) y) ∙ e in
        let z : ◌≡◌ {A = ℕ} 0 1 = cc in omega arith
    by (inr n) later = later (sym (ap (λ b. cond b (Some j) (named_among ks w)) n) ∙ e)

-- the longest mark begins with its byte

step : {Z : Type 0} (b c : ℕ) (x y : Option Mark) (m : Mark) → (b ≡ c → x ≡ Some m → Z) → (y ≡ Some m → Z) → cond (eqb b c) x y ≡ Some m → Z
step {Z = Z} b c x y m here later =
    cond_both (eqb b c) x y (λ o. o ≡ Some m → Z) (λ q e. here (eqb-true b c q) e) (λ q e. later e)

-- a mark of one byte; one of two
one : (b c : ℕ) (f : Bool) (n m : Mark) → mark_spelling n ≡ c ∷ [] → b ≡ c → ◌≡◌ {A = Option Mark} (Some n) (Some m) → BeginsMark b f m
one b c f n m spelt q e = let is : n ≡ m = cc in inl (ap mark_spelling (sym is) ∙ spelt ∙ ap (λ d. d ∷ []) (sym q))

two : (b c : ℕ) (n m : Mark) → mark_spelling n ≡ c ∷ 0x3d ∷ [] → b ≡ c → ◌≡◌ {A = Option Mark} (Some n) (Some m) → BeginsMark b true m
two b c n m spelt q e = let is : n ≡ m = cc in inr (ap mark_spelling (sym is) ∙ spelt ∙ ap (λ d. d ∷ 0x3d ∷ []) (sym q), refl)

none : {Z : Type 0} (m : Mark) → ◌≡◌ {A = Option Mark} None (Some m) → Z
none m e = absurd (let z : ◌≡◌ {A = ℕ} 0 1 = cc in let f : ⊥ = omega arith in f)

longest_begins : (b : ℕ) (f : Bool) (m : Mark) → longest_mark b f ≡ Some m → BeginsMark b f m
longest_begins b true m =
    step b 0x28 _ _ m (one b 0x28 true Open m refl) (step b 0x29 _ _ m (one b 0x29 true Close m refl) (step b 0x2b _ _ m (one b 0x2b true Plus m refl)
    (step b 0x2d _ _ m (one b 0x2d true Minus m refl) (step b 0x3d _ _ m (two b 0x3d Equal m refl) (step b 0x21 _ _ m (two b 0x21 NotEqual m refl)
    (step b 0x3c _ _ m (two b 0x3c LessEqual m refl) (step b 0x3a _ _ m (one b 0x3a true Colon m refl) (step b 0x3b _ _ m (one b 0x3b true Semicolon m refl)
    (step b 0x2c _ _ m (one b 0x2c true Comma m refl) (none m))))))))))
longest_begins b false m =
    step b 0x28 _ _ m (one b 0x28 false Open m refl) (step b 0x29 _ _ m (one b 0x29 false Close m refl) (step b 0x2b _ _ m (one b 0x2b false Plus m refl)
    (step b 0x2d _ _ m (one b 0x2d false Minus m refl) (step b 0x3d _ _ m (one b 0x3d false Assign m refl) (step b 0x21 _ _ m (λ _. none m)
    (step b 0x3c _ _ m (one b 0x3c false Less m refl) (step b 0x3a _ _ m (one b 0x3a false Colon m refl) (step b 0x3b _ _ m (one b 0x3b false Semicolon m refl)
    (step b 0x2c _ _ m (one b 0x2c false Comma m refl) (none m))))))))))

-- the computed token in front is the one that stands there

abbrev Stands : List ℕ → ℕ → Option (Lexeme × ℕ) → Type 0
Stands t s None = (l : Lexeme) (e : ℕ) → ¬ TokenAt t s l e
Stands t s (Some (l, n)) = TokenAt t s l (s + n)

part_is : (t : List ℕ) (s n : ℕ) → part t s (s + n) ≡ take n (drop s t)
part_is t s n = ap (λ k. take k (drop s t)) (let e : s + n - s ≡ n = omega arith in e)

spelt_stands : (t : List ℕ) (s n : ℕ) → Ends t s (s + n) → is_letter (get_or t s 0) ≡ true → n ≤ max_name → (o : Option Word) → word_named (take n (drop s t)) ≡ o →
    TokenAt t s (name_or_word (take n (drop s t)) o) (s + n)
spelt_stands t s n k l few (Some w) is = word_token t s (s + n) k w (part_is t s n ∙ named_is all_words (take n (drop s t)) w is)
spelt_stands t s n k l few None is =
    subst (λ (v : List ℕ). TokenAt t s (name v) (s + n)) (part_is t s n)
    (name_token t s (s + n) k l (omega arith) (λ r. named_none all_words (take n (drop s t)) r.0 (all_among r.0) (sym (part_is t s n) ∙ r.1) is))

name_stands : (t : List ℕ) (s n : ℕ) → s < length t → is_letter (get_or t s 0) ≡ true → RunTo is_name_byte t s (s + n) → Stands t s (name_front (drop s t) n)
name_stands t s n h l run =
    let k = name_ends t s (s + n) h l run in
    cond_both (leb n max_name) _ _ (Stands t s)
    (λ y. spelt_stands t s n k l (leb-true n max_name y) (word_named (take n (drop s t))) refl)
    (λ y. ends_none t s (s + n) k (long_name t s (s + n) k l (let m = leb-false n max_name y in omega arith)))

number_stands : (t : List ℕ) (s n : ℕ) → s < length t → is_digit (get_or t s 0) ≡ true → RunTo is_digit t s (s + n) → Stands t s (number_front (drop s t) n)
number_stands t s n h d run =
    let k = number_ends t s (s + n) h d run in
    cond_both (leb n max_digits) _ _ (Stands t s)
    (λ y. let few = leb-true n max_digits y in
    subst (λ (v : List ℕ). TokenAt t s (number v) (s + n)) (part_is t s n) (number_token t s (s + n) h d run (omega arith)))
    (λ y. let many = leb-false n max_digits y in ends_none t s (s + n) k (long_number t s (s + n) k d (omega arith)))

mark_stands : (t : List ℕ) (s : ℕ) (f : Bool) (o : Option Mark) → s < length t → is_letter (get_or t s 0) ≡ false → is_digit (get_or t s 0) ≡ false →
    f ≡ eqb (get_or t (s + 1) 0) 0x3d → longest_mark (get_or t s 0) f ≡ o → Stands t s (mark_front o)
mark_stands t s f (Some m) h nl nd fo e =
    mark_token t s f (length (mark_spelling m)) h nl nd m fo (sym e) (longest_begins (get_or t s 0) f m e) refl
mark_stands t s f None h nl nd fo e = no_mark t s f nl nd fo (sym e)

front_stands : (t : List ℕ) (s : ℕ) → s < length t → Stands t s (front (get_or t s 0) (drop s t))
front_stands t s h =
    let w = drop s t in
    let run = λ (f : ℕ → Bool). run_to f t s (run_length f w) (omega arith) (counted f w) in
    cond_both (is_letter (get_or t s 0)) _ _ (Stands t s)
    (λ l. name_stands t s (run_length is_name_byte w) h l (run is_name_byte))
    (λ l. cond_both (is_digit (get_or t s 0)) _ _ (Stands t s)
    (λ d. number_stands t s (run_length is_digit w) h d (run is_digit))
    (λ d. mark_stands t s (eqb (get_or w 1 0) 0x3d) (longest_mark (get_or t s 0) (eqb (get_or w 1 0) 0x3d)) h l d (ap (λ c. eqb c 0x3d) (get_or-drop s t 1 0)) refl))

-- the stream from a place where no blank stands

abbrev Goes : List ℕ → ℕ → (ℕ → List ℕ → Stream) → Type 0
Goes t s rest = (e : ℕ) → s < e → e ≤ length t → Streams t e (rest e (drop e t))

after : (t : List ℕ) (a s : ℕ) (rest : ℕ → List ℕ → Stream) → a ≤ s → s < length t → Blanks t a s → is_blank (get_or t s 0) ≡ false → Goes t s rest →
    (o : Option (Lexeme × ℕ)) → Stands t s o → Streams t a (stream_after s o (drop s t) rest)
after t a s rest h st blanks nb goes None stands = record { after = h; blanks = blanks; within = st; no_blank = nb; no_token = stands }
after t a s rest h st blanks nb goes (Some (l, n)) stands =
    let e = stands.some_bytes in (
      s + n,
      record { after = h; blanks = blanks; token = stands },
      subst (λ (w : List ℕ). Streams t (s + n) (rest (s + n) w)) (sym (drop-drop n s t)) (goes (s + n) e stands.within),
    )

at : (t : List ℕ) (a s : ℕ) (rest : ℕ → List ℕ → Stream) → a ≤ s → s ≤ length t → Blanks t a s → (s < length t → is_blank (get_or t s 0) ≡ false) → Goes t s rest →
    Streams t a (stream_at s (drop s t) rest)
at t a s rest h st blanks nb goes = by (cases_lt s (length t))
  where
    by : (s < length t) ⊎ (length t ≤ s) → Streams t a (stream_at s (drop s t) rest)
    by (inl less) =
        let w = drop_more t s 0 less in
        subst (λ (v : List ℕ). Streams t a (stream_at s v rest)) (sym w)
        (subst (λ (v : List ℕ). Streams t a (stream_after s (front (get_or t s 0) v) v rest)) w
        (after t a s rest h less blanks (nb less) goes (front (get_or t s 0) (drop s t)) (front_stands t s less)))
    by (inr all) =
        subst (λ (v : List ℕ). Streams t a (stream_at s v rest)) (sym (drop_all s t all))
        ((λ i ai ie it. blanks i ai (omega arith) it), omega arith)

pub from : (f : ℕ) (t : List ℕ) (a : ℕ) → a ≤ length t → length t - a < f → Streams t a (stream_from f a (drop a t))
unfolding stream_from
from zero t a h few = absurd (let z : ⊥ = omega arith in z)
from (suc f) t a h few =
    let n = run_length is_blank (drop a t) in
    let run = run_to is_blank t a n h (counted is_blank (drop a t)) in
    let st : a + n ≤ length t = run.within h in
    subst (λ (w : List ℕ). Streams t a (stream_at (a + n) w (stream_from f))) (sym (drop-drop n a t))
    (at t a (a + n) (stream_from f) run.after st (λ i ai ie it. run.each i ai ie) run.stops (λ e se et. from f t e et (omega arith)))

pub stream_of_text : StreamOfText
stream_of_text t = from (length t + 1) t 0 (omega arith) (omega arith)
