-- How what a stack holds changes with its room and with how much of that is taken.
use Rattle.std.proofs.Common.{◌≡◌, ℕ, ◌+◌, ◌<◌, ◌≤◌, List, [], ◌∷◌, reverse, length, get_or, take, set, Some, None, zero, suc, ◌-◌, sym, refl, ap, ◌∙◌, arith, length-take}
use Rattle.std.proofs.lemmas.List.{take_more, take_more_set, reverse-append, length-reverse, get_or-take, get_or_default, length-take-le}
use Rattle.std.proofs.lemmas.Option.{slice_get-get_or}
use Rattle.std.specs.List.{slice_get}
use Rattle.stack.specs.Held.{stacked, top_of}

module _ {T : Type 0} where
  pub none : (room : List T) → stacked room 0 ≡ []
  unfolding stacked
  none room = refl

  pub counted : (room : List T) (n : ℕ) → n ≤ length room → length (stacked room n) ≡ n
  unfolding stacked
  counted room n h = length-reverse (take n room) ∙ length-take n room ∙ omega arith

  -- One place more is taken, by x.
  pub pushed : (room after : List T) (n m : ℕ) (x : T) → n < length room → after ≡ set room n x → m ≡ n + 1 →
      stacked after m ≡ x ∷ stacked room n
  unfolding stacked
  pushed room after n m x h put more =
      ap (λ l. reverse (take m l)) put ∙ ap (λ k. reverse (take k (set room n x))) more
      ∙ ap reverse (take_more_set room n x h) ∙ reverse-append (take n room) (x ∷ [])

  -- One place fewer is taken: the one that held x.
  pub popped : (room after : List T) (n m : ℕ) (x : T) → n ≤ length room → after ≡ room → n ≡ m + 1 → x ≡ get_or room m x →
      stacked room n ≡ x ∷ stacked after m
  unfolding stacked
  popped room after n m x h same fewer e =
      ap (λ k. reverse (take k room)) fewer ∙ ap reverse (take_more room m x (omega arith))
      ∙ reverse-append (take m room) (get_or room m x ∷ [])
      ∙ ap (λ y. y ∷ reverse (take m room)) (sym e) ∙ ap (λ l. x ∷ reverse (take m l)) (sym same)

  -- What is held, where some place is taken: the last one taken, and what the others hold.
  taken : (room : List T) (m : ℕ) (d : T) → suc m ≤ length room → stacked room (suc m) ≡ get_or room m d ∷ stacked room m
  taken room m d h = popped room room (suc m) m (get_or room m d) h refl (omega arith) (get_or_default room m d (get_or room m d) (omega arith))

  -- The last place taken holds the top.
  pub topped : (room : List T) (n : ℕ) → n ≤ length room → slice_get (take n room) (length (take n room) - 1) ≡ top_of (stacked room n)
  topped room zero h = ap top_of (sym (none room))
  topped [] (suc m) h = absurd (omega arith)
  topped (d ∷ ds) (suc m) h =
      let l : length (take (suc m) (d ∷ ds)) ≡ suc m = length-take-le (suc m) (d ∷ ds) h in
      let e : length (take (suc m) (d ∷ ds)) - 1 ≡ m = omega arith in
      ap (slice_get (take (suc m) (d ∷ ds))) e ∙ slice_get-get_or (take (suc m) (d ∷ ds)) m d (omega arith)
      ∙ ap Some (get_or-take (suc m) (d ∷ ds) m d (omega arith)) ∙ sym (ap top_of (taken (d ∷ ds) m d h))

  -- A top lies on the rest.
  pub shown : (room : List T) (n : ℕ) (x : T) → n ≤ length room → Some x ≡ top_of (stacked room n) → (1 ≤ n) × (stacked room n ≡ x ∷ stacked room (n - 1))
  shown room zero x h e = absurd (let f : ◌≡◌ (Some x) None = e ∙ ap top_of (none room) in cc)
  shown [] (suc m) x h e = absurd (omega arith)
  shown (d ∷ ds) (suc m) x h e =
      let f : Some x ≡ Some (get_or (d ∷ ds) m d) = e ∙ ap top_of (taken (d ∷ ds) m d h) in
      let g : get_or (d ∷ ds) m d ≡ x = cc in
      let k : m ≡ suc m - 1 = omega arith in
      (omega arith, taken (d ∷ ds) m d h ∙ ap (λ y. y ∷ stacked (d ∷ ds) m) g ∙ ap (λ n. x ∷ stacked (d ∷ ds) n) k)
