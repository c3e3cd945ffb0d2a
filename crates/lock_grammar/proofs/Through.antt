-- Texts that agree up to a place have the same tokens up to it. Assumes nothing.
use Rattle.std.proofs.Common.{◌≡◌, ℕ, suc, ◌+◌, ◌<◌, ◌≤◌, Bool, true, false, eqb, ltb, List, [], ◌∷◌, length, get_or, take, sym, refl, ap, ◌∙◌, subst, inl, inr, arith, length-take, get_or-take, ltb-false, ltb-true, eqb-true}
use borrow.Author.Tests.{eqb-false}
use Rattle.lock_text.specs.Characters.{is_blank, is_letter, is_digit, is_name_byte}
use Rattle.lock_text.specs.Spelling.{Lexeme, mark_spelling, Each, Shape}
use Rattle.lock_text.specs.Tokens.{part, Blanks, TokenAt, NextToken}
use Rattle.lock_text.specs.declared.token.Mark.{Mark}
use Rattle.lock_text.specs.declared.token.Mark.TheVariants as Marks
use Rattle.lock_text.proofs.Shapes.{part_at, part_first, part_length}
use Rattle.token_stream.specs.Streams.{Stream, token, fault, end, Streams}
use Rattle.token_stream.specs.Computed.{stream_of}
use Rattle.token_stream.proofs.Streaming.{streams_are_one, stream_of_text}
use Rattle.expression_grammar.specs.Kinds.{place}
use Rattle.expression_grammar.specs.Laws.{Begins}
use Rattle.lock_grammar.specs.Reading.{text_read}
use Rattle.lock_grammar.specs.Laws.{FirstFaultByBytes}
use Rattle.lock_grammar.proofs.Texts.{first_fault, not_both}
use Rattle.lock_grammar.proofs.Bytes.{read_exactly}

same_list : (xs ys : List ℕ) → length xs ≡ length ys → ((i : ℕ) → i < length xs → get_or xs i 0 ≡ get_or ys i 0) → xs ≡ ys
same_list [] [] l h = refl
same_list [] (y ∷ ys) l h = absurd (omega arith)
same_list (x ∷ xs) [] l h = absurd (omega arith)
same_list (x ∷ xs) (y ∷ ys) l h =
    let p : x ≡ y = h 0 (omega arith) in
    let q : xs ≡ ys = same_list xs ys (omega arith) (λ i s. h (suc i) (omega arith)) in
    cc

-- a part of what looks like a token, but for marks

each_shorter : (g : ℕ → Bool) (u : List ℕ) (a e f : ℕ) → e ≤ f → f ≤ length u → Each g (part u a f) → Each g (part u a e)
each_shorter g u a e f l m h i s =
    let p = part_length u a e (omega arith) in
    let q = part_length u a f m in
    subst (λ (b : ℕ). g b ≡ true) (part_at u a f i (omega arith) ∙ sym (part_at u a e i (omega arith))) (h i (omega arith))

mark_short : (m : Mark) → length (mark_spelling m) ≤ 2
mark_short Marks.Open = omega arith
mark_short Marks.Close = omega arith
mark_short Marks.Plus = omega arith
mark_short Marks.Minus = omega arith
mark_short Marks.Assign = omega arith
mark_short Marks.Equal = omega arith
mark_short Marks.NotEqual = omega arith
mark_short Marks.Less = omega arith
mark_short Marks.LessEqual = omega arith
mark_short Marks.Colon = omega arith
mark_short Marks.Semicolon = omega arith
mark_short Marks.Comma = omega arith

shorter : (u : List ℕ) (a e f : ℕ) → a < e → e ≤ f → f ≤ length u → a + 2 < f → Shape (part u a f) → Shape (part u a e)
shorter u a e f s l m long (inl (p, q)) =
    inl (subst (λ (b : ℕ). is_letter b ≡ true) (part_first u a f (omega arith) ∙ sym (part_first u a e s)) p, each_shorter is_name_byte u a e f l m q)
shorter u a e f s l m long (inr (inl (p, q))) = inr (inl (omega (arith, part_length u a e (omega arith)), each_shorter is_digit u a e f l m q))
shorter u a e f s l m long (inr (inr (k, h))) = absurd (omega (arith, part_length u a f m, ap length h, mark_short k))

-- the texts t and u agree on their first n bytes
module _ (t u : List ℕ) (n : ℕ) (agree : take n t ≡ take n u) where
  same_byte : (i : ℕ) → i < n → get_or t i 0 ≡ get_or u i 0
  same_byte i l = sym (get_or-take n t i 0 l) ∙ ap (λ w. get_or w i 0) agree ∙ get_or-take n u i 0 l

  same_length : (e : ℕ) → e ≤ n → e ≤ length t → e ≤ length u
  same_length e l m = let p = length-take n t in let q = length-take n u in let r = ap length agree in omega arith

  back_length : (e : ℕ) → e ≤ n → e ≤ length u → e ≤ length t
  back_length e l m = let p = length-take n t in let q = length-take n u in let r = ap length agree in omega arith

  same_part : (a e : ℕ) → e ≤ n → e ≤ length t → part t a e ≡ part u a e
  same_part a e l m =
      let p = part_length t a e m in
      let q = part_length u a e (same_length e l m) in
      same_list (part t a e) (part u a e) (p ∙ sym q) (λ i s. part_at t a e i (omega arith) ∙ same_byte (a + i) (omega arith) ∙ sym (part_at u a e i (omega arith)))

  longest_by : (a e f : ℕ) → a < e → e < n → e < f → f ≤ length u → (b : Bool) → eqb f (e + 1) ≡ b → Shape (part u a f) → Shape (part u a (e + 1))
  longest_by a e f s l m k true h p = subst (λ (g : ℕ). Shape (part u a g)) (eqb-true _ _ h) p
  longest_by a e f s l m k false h p = let ne = eqb-false _ _ h in shorter u a (e + 1) f (omega arith) (omega arith) k (omega arith) p

  token_kept : (a : ℕ) (l : Lexeme) (e : ℕ) → TokenAt t a l e → e < n → TokenAt u a l e
  token_kept a l e k small =
      let le : e ≤ n = omega arith in
      record {
        some_bytes = k.some_bytes;
        within = same_length e le k.within;
        spelt = k.spelt ∙ same_part a e le k.within;
        well_formed = k.well_formed;
        longest = λ f m o p.
            let here : e + 1 ≤ length t = back_length (e + 1) (omega arith) (omega arith) in
            k.longest (e + 1) (omega arith) here (subst Shape (sym (same_part a (e + 1) (omega arith) here)) (longest_by a e f k.some_bytes small m o (eqb f (e + 1)) refl p));
      }

  blanks_kept : (a s : ℕ) → s ≤ n → Blanks t a s → Blanks u a s
  blanks_kept a s l b i p q r = subst (λ (c : ℕ). is_blank c ≡ true) (same_byte i (omega arith)) (b i p q (back_length (suc i) (omega arith) (omega arith)))

-- blanks before a stream

blanks_by : (u : List ℕ) (a s i : ℕ) → Blanks u a s → Blanks u s i → (j : ℕ) → a ≤ j → j < i → j < length u → (b : Bool) → ltb j s ≡ b → is_blank (get_or u j 0) ≡ true
blanks_by u a s i p q j l m o true h = p j l (ltb-true _ _ h) o
blanks_by u a s i p q j l m o false h = q j (ltb-false _ _ h) m o

both_blanks : (u : List ℕ) (a s i : ℕ) → Blanks u a s → Blanks u s i → Blanks u a i
both_blanks u a s i p q j l m o = blanks_by u a s i p q j l m o (ltb j s) refl

after_blanks : (u : List ℕ) (a s : ℕ) (q : Stream) → a ≤ s → Blanks u a s → Streams u s q → Streams u a q
after_blanks u a s (token l i x) le b (e, h, r) = (e, record { after = omega (arith, h.after); blanks = both_blanks u a s i b h.blanks; token = h.token }, r)
after_blanks u a s (fault i) le b h = record { after = omega (arith, h.after); blanks = both_blanks u a s i b h.blanks; within = h.within; no_blank = h.no_blank; no_token = h.no_token }
after_blanks u a s (end k) le b (h, e) = (both_blanks u a s (length u) b h, e)

-- what stands before the place of a stream

place_after : (t : List ℕ) (a : ℕ) (r : Stream) → Streams t a r → a ≤ length t → a ≤ place r
place_after t a (token l i x) (e, h, s) m = h.after
place_after t a (fault i) h m = h.after
place_after t a (end k) (h, e) m = omega arith

blanks_before : (t : List ℕ) (a : ℕ) (r : Stream) → Streams t a r → Blanks t a (place r)
blanks_before t a (token l i x) (e, h, s) = h.blanks
blanks_before t a (fault i) h = h.blanks
blanks_before t a (end k) (h, e) = subst (λ (j : ℕ). Blanks t a j) (sym e) h

ahead : (t : List ℕ) (a : ℕ) (z : Stream) (ls : List Lexeme) (r : Stream) → Streams t a z → a ≤ length t → Begins z ls r → a ≤ place r
ahead t a z [] r s m b = place_after t a r (subst (λ (y : Stream). Streams t a y) b s) m
ahead t a z (l ∷ ls) r s m (i, w, e, b) =
    let k : Streams t a (token l i w) = subst (λ (y : Stream). Streams t a y) e s in
    let o = ahead t k.0 w ls r k.2 k.1.token.within b in
    omega (arith, k.1.after, k.1.token.some_bytes)

-- the same tokens up to the place

module _ (t u : List ℕ) (r q : Stream) (agree : take (place r + 1) t ≡ take (place r + 1) u) (there : Streams u (place r) q) where
  carried : (before : List Lexeme) (a : ℕ) (x : Stream) → Streams t a x → a ≤ length t → Begins x before r → (y : Stream) × Streams u a y × Begins y before q
  carried [] a x s m b =
      let k : Streams t a r = subst (λ (y : Stream). Streams t a y) b s in
      (q, after_blanks u a (place r) q (place_after t a r k m) (blanks_kept t u (place r + 1) agree a (place r) (omega arith) (blanks_before t a r k)) there, refl)
  carried (l ∷ ls) a x s m (i, w, e, b) =
      let k : Streams t a (token l i w) = subst (λ (y : Stream). Streams t a y) e s in
      let o = ahead t k.0 w ls r k.2 k.1.token.within b in
      let more = carried ls k.0 w k.2 k.1.token.within b in
      let h : NextToken u a l i k.0 = record {
        after = k.1.after;
        blanks = blanks_kept t u (place r + 1) agree a i (omega (arith, k.1.token.some_bytes)) k.1.blanks;
        token = token_kept t u (place r + 1) agree i l k.0 k.1.token (omega arith);
      } in
      (token l i more.0, (k.0, h, more.1), (i, more.0, refl, more.2))

pub first_fault_by_bytes : FirstFaultByBytes
first_fault_by_bytes t m r h u q agree there same =
    let f = first_fault (stream_of t) m r h in
    let c = carried t u r q agree there f.0 0 (stream_of t) (stream_of_text t) (omega arith) f.1 in
    let e : c.0 ≡ stream_of u = streams_are_one u 0 c.0 (stream_of u) c.1 (stream_of_text u) in
    let g = f.2 (stream_of u) q (subst (λ (y : Stream). Begins y f.0 q) e c.2) same in
    (g.0, λ p d. let o = (read_exactly u p).1 d in not_both (text_read (stream_of u)) m q p o.0 g.0 o.1)
