-- The bytes of a bad run are those whose fields are a bad run's.
use Rattle.std.proofs.Common.{◌≡◌, ℕ, ◌+◌, ◌-◌, ◌^◌, ◌<◌, ◌≤◌, min, Bool, true, false, cond, eqb, ◌⊎◌, List, [], ◌∷◌, ◌++◌, map, length, get_or, take, drop, sym, refl, ap, ◌∙◌, subst, inl, inr, append_assoc, arith}
use Rattle.std.proofs.lemmas.List.{take-append-drop, take_all, take_at, drop_at, drop-drop, drop_more, length-take, length-drop, length-map, length-append, get_or-take, get_or-drop, get_or-map}
use Rattle.std.proofs.lemmas.Bool.{ne_eqb, eqb-true, cond-false}
use Rattle.byte_numbers.specs.Numbers.{Bytes, encoded, number_at}
use Rattle.byte_numbers.proofs.Numbers.{written_is_read_lem, read_is_written_lem}
use Rattle.system.specs.Transitions.{Transitions, LawfulTransitions}
use Rattle.system.specs.Runs.{Step, command, rest, Leads, Walk}
use Rattle.system.specs.Justice.{FairSystem, Lawful}
use Rattle.lasso.specs.BadRuns.{ClashRun, LockoutRun}
use Rattle.run_rules.specs.Layout.{step_byte, step_of, run_bytes, BadBytes, clash_bytes, lockout_bytes, stem_length, loop_length, end, stem, cycle}
use Rattle.run_rules.specs.Causes.{StepAt}
use Rattle.run_rules.proofs.Paths.{walk_through}
use Rattle.run_rules.proofs.Judged.{BadFields}

-- A byte is that of its step.
byte_back : (b : ℕ) → step_byte (step_of b) ≡ b
byte_back b = by_test (eqb b 255) refl
  where
    by_test : (x : Bool) → eqb b 255 ≡ x → step_byte (cond x rest (command b)) ≡ b
    by_test true e = sym (eqb-true b 255 e)
    by_test false e = refl

bytes_back : (xs : List ℕ) → map step_byte (map step_of xs) ≡ xs
bytes_back [] = refl
bytes_back (b ∷ xs) = let e = byte_back b in let f = bytes_back xs in cc

-- From the fields to the bytes.
module _ (bs : List ℕ) (bytes : Bytes bs) (whole : length bs ≡ end bs) where
  small_number : (at : ℕ) → at + 4 ≤ length bs → number_at bs at < 2 ^ 32
  small_number at h =
      let a = bytes at (omega arith) in
      let b = bytes (at + 1) (omega arith) in
      let c = bytes (at + 2) (omega arith) in
      let d = bytes (at + 3) (omega arith) in
      omega arith

  pub few_stem : length (stem bs) ≡ stem_length bs
  few_stem =
      let z : length (stem bs) ≡ min (stem_length bs) (length bs - 6) = simp (length-map, length-take, length-drop) in
      grind arith

  pub few_loop : length (cycle bs) ≡ loop_length bs
  few_loop =
      let z : length (cycle bs) ≡ min (loop_length bs) (length bs - (10 + stem_length bs)) = simp (length-map, length-take, length-drop) in
      grind arith

  pub stem_small : length (stem bs) < 2 ^ 32
  stem_small = let e = few_stem in let s = small_number 2 (omega arith) in omega arith

  pub loop_small : length (cycle bs) < 2 ^ 32
  loop_small = let e = few_loop in let s = small_number (6 + stem_length bs) (omega arith) in omega arith

  -- four bytes, and what is behind them
  count_there : (at m : ℕ) → at + 4 ≤ length bs → m ≡ number_at bs at → drop at bs ≡ encoded m ++ drop (at + 4) bs
  count_there at m h e =
      sym (take-append-drop 4 (drop at bs))
      ∙ ap (λ l. l ++ drop 4 (drop at bs)) (sym (ap encoded e ∙ read_is_written_lem bs bytes at h))
      ∙ ap (λ l. encoded m ++ l) (drop-drop 4 at bs)

  pub as_bytes : bs ≡ run_bytes (get_or bs 0 0) (get_or bs 1 0) (stem bs) (cycle bs)
  as_bytes =
      let d0 : drop 0 bs ≡ get_or bs 0 0 ∷ drop 1 bs = drop_more bs 0 0 (omega arith) in
      let d1 : drop 1 bs ≡ get_or bs 1 0 ∷ drop 2 bs = drop_more bs 1 0 (omega arith) in
      let d2 : drop 2 bs ≡ encoded (length (stem bs)) ++ drop 6 bs = count_there 2 (length (stem bs)) (omega arith) few_stem in
      let d3 : drop 6 bs ≡ map step_byte (stem bs) ++ drop (6 + stem_length bs) bs =
      sym (take-append-drop (stem_length bs) (drop 6 bs))
      ∙ ap (λ l. l ++ drop (stem_length bs) (drop 6 bs)) (sym (bytes_back (take (stem_length bs) (drop 6 bs))))
      ∙ ap (λ l. map step_byte (stem bs) ++ l) (drop-drop (stem_length bs) 6 bs) in
      let d4 : drop (6 + stem_length bs) bs ≡ encoded (length (cycle bs)) ++ drop (6 + stem_length bs + 4) bs =
      count_there (6 + stem_length bs) (length (cycle bs)) (omega arith) few_loop in
      let q : 6 + stem_length bs + 4 ≡ 10 + stem_length bs = omega arith in
      let d5 : drop (10 + stem_length bs) bs ≡ map step_byte (cycle bs) =
      sym (take_all (loop_length bs) (drop (10 + stem_length bs) bs) (simp length-drop (omega arith)))
      ∙ sym (bytes_back (take (loop_length bs) (drop (10 + stem_length bs) bs))) in
      d0 ∙ ap (λ l. get_or bs 0 0 ∷ l) (d1 ∙ ap (λ l. get_or bs 1 0 ∷ l) (d2 ∙ ap (λ l. encoded (length (stem bs)) ++ l) (d3
      ∙ ap (λ l. map step_byte (stem bs) ++ l) (d4 ∙ ap (λ k. encoded (length (cycle bs)) ++ drop k bs) q
      ∙ ap (λ l. encoded (length (cycle bs)) ++ l) d5))))

pub bad_bytes : (S : FairSystem) (bs : List ℕ) → Bytes bs → BadFields S bs → BadBytes S bs
bad_bytes S bs bytes f = by_kind f.bad
  where
    by_kind :
        ((get_or bs 0 0 ≡ 1) × (get_or bs 1 0 ≡ 0) × (loop_length bs ≡ 0) × ClashRun S.steps (stem bs))
        ⊎ ((get_or bs 0 0 ≡ 2) × LockoutRun S (get_or bs 1 0) (stem bs) (cycle bs)) → BadBytes S bs
    by_kind (inl (k, p, m, c)) =
        let none : cycle bs ≡ [] = ap (λ i. map step_of (take i (drop (10 + stem_length bs) bs))) m in
        let e = as_bytes bs bytes f.whole in
        clash_bytes (stem bs) (stem_small bs bytes f.whole) c
        (e ∙ ap (λ i. run_bytes i (get_or bs 1 0) (stem bs) (cycle bs)) k ∙ ap (λ i. run_bytes 1 i (stem bs) (cycle bs)) p ∙ ap (run_bytes 1 0 (stem bs)) none)
    by_kind (inr (k, c)) =
        lockout_bytes (get_or bs 1 0) (stem bs) (cycle bs) (stem_small bs bytes f.whole) (loop_small bs bytes f.whole) c
        (as_bytes bs bytes f.whole ∙ ap (λ i. run_bytes i (get_or bs 1 0) (stem bs) (cycle bs)) k)

-- From the bytes to the fields: the steps of walks have commands of the system.
module _ (T : Transitions) (law : LawfulTransitions T) where
  abbrev GoodByte : ℕ → Type 0
  GoodByte b = (b ≡ 255) ⊎ (b < T.commands)

  good_step : (s : ℕ) (a : Step) (t : ℕ) → Leads T s a t → GoodByte (step_byte a)
  good_step s (command k) t l = inr (law.next_below s k t l).1
  good_step s rest t l = inl refl

  step_back : (s : ℕ) (a : Step) (t : ℕ) → Leads T s a t → step_of (step_byte a) ≡ a
  step_back s (command k) t l =
      let h = (law.next_below s k t l).1 in
      let m = law.few_commands in
      cond-false (eqb k 255) rest (command k) (ne_eqb k 255 (λ e. omega arith))
  step_back s rest t l = refl

  steps_back : (w : List Step) (s t : ℕ) → Walk T s w t → map step_of (map step_byte w) ≡ w
  steps_back [] s t h = refl
  steps_back (a ∷ w) s t (u, l, h) = let e = step_back s a u l in let f = steps_back w u t h in cc

  -- bytes that are those of a walk
  good_bytes : (bs : List ℕ) (at n : ℕ) (w : List Step) (s t : ℕ) → Walk T s w t → length w ≡ n → take n (drop at bs) ≡ map step_byte w →
      (i : ℕ) → at ≤ i → i < at + n → GoodByte (get_or bs i 0)
  good_bytes bs at n w s t h l e i low high =
      let j = i - at in
      let below : j < n = omega arith in
      let within : j < length w = omega arith in
      let q : at + j ≡ i = omega arith in
      let (u, v, _, lead) = walk_through T w s t j h within in
      let is : step_byte (get_or w j rest) ≡ get_or bs i 0 =
      sym (get_or-map step_byte w j rest 0 within) ∙ ap (λ l. get_or l j 0) (sym e)
      ∙ get_or-take n (drop at bs) j 0 below ∙ get_or-drop at bs j 0 ∙ ap (λ k. get_or bs k 0) q in
      subst GoodByte is (good_step u (get_or w j rest) v lead)

module _ (T : Transitions) (law : LawfulTransitions T) (kind p : ℕ) (w v : List Step) (few : length w < 2 ^ 32) (few' : length v < 2 ^ 32)
    (s t u : ℕ) (walk : Walk T s w t) (walk' : Walk T t v u) where
  abbrev bs : List ℕ
  bs = run_bytes kind p w v

  n_is : stem_length bs ≡ length w
  n_is = written_is_read_lem (length w) few (kind ∷ p ∷ []) (map step_byte w ++ (encoded (length v) ++ map step_byte v))

  m_is : loop_length bs ≡ length v
  m_is =
      let front : List ℕ = kind ∷ p ∷ (encoded (length w) ++ map step_byte w) in
      let long : length front ≡ 6 + stem_length bs = let e = length-map w step_byte in let f = n_is in omega arith in
      ap (number_at bs) (sym long) ∙ written_is_read_lem (length v) few' front (map step_byte v)

  stem_there : take (stem_length bs) (drop 6 bs) ≡ map step_byte w
  stem_there = take_at (map step_byte w) _ (stem_length bs) (length-map w step_byte ∙ sym n_is)

  loop_there : take (loop_length bs) (drop (10 + stem_length bs) bs) ≡ map step_byte v
  loop_there =
      let front : List ℕ = kind ∷ p ∷ (encoded (length w) ++ (map step_byte w ++ encoded (length v))) in
      let same : bs ≡ front ++ map step_byte v =
      ap (λ l. kind ∷ p ∷ (encoded (length w) ++ l)) (sym (append_assoc (map step_byte w) (encoded (length v)) (map step_byte v))) in
      let long : length front ≡ 10 + stem_length bs =
      let a = length-append (map step_byte w) (encoded (length v)) in let e = length-map w step_byte in let f = n_is in omega arith in
      ap (λ l. take (loop_length bs) (drop (10 + stem_length bs) l)) same
      ∙ ap (take (loop_length bs)) (drop_at front (map step_byte v) (10 + stem_length bs) long)
      ∙ take_all (loop_length bs) (map step_byte v) (let e = length-map v step_byte in let f = m_is in omega arith)

  pub stem_is : stem bs ≡ w
  stem_is = ap (map step_of) stem_there ∙ steps_back T law w s t walk

  pub loop_is : cycle bs ≡ v
  loop_is = ap (map step_of) loop_there ∙ steps_back T law v t u walk'

  pub whole_is : length bs ≡ end bs
  whole_is =
      let a = length-append (map step_byte w) (encoded (length v) ++ map step_byte v) in
      let b = length-map w step_byte in
      let c = length-map v step_byte in
      omega (arith, n_is, m_is)

  pub steps_are : (i : ℕ) → StepAt bs i → (get_or bs i 0 ≡ 255) ⊎ (get_or bs i 0 < T.commands)
  steps_are i (inl (low, high)) = good_bytes T law bs 6 (stem_length bs) w s t walk (sym n_is) stem_there i low high
  steps_are i (inr (low, high)) = good_bytes T law bs (10 + stem_length bs) (loop_length bs) v t u walk' (sym m_is) loop_there i low high

  pub loop_length_is : loop_length bs ≡ length v
  loop_length_is = m_is

pub bad_fields : (S : FairSystem) → Lawful S → (bs : List ℕ) → BadBytes S bs → BadFields S bs
bad_fields S law bs (clash_bytes w few c e) =
    let T = S.steps in
    let none : 0 < 2 ^ 32 = omega arith in
    let walk = c.stem_walk in
    let P : List ℕ → Type 0 = λ l. BadFields S l in
    let Q : List Step → Type 0 = λ l. ClashRun T l in
    subst P (sym e) (record {
      whole = whole_is T law.steps 1 0 w [] few none T.start c.last c.last walk refl;
      steps = steps_are T law.steps 1 0 w [] few none T.start c.last c.last walk refl;
      bad = inl (
        refl,
        refl,
        loop_length_is T law.steps 1 0 w [] few none T.start c.last c.last walk refl,
        subst Q (sym (stem_is T law.steps 1 0 w [] few none T.start c.last c.last walk refl)) c,
      );
    })
bad_fields S law bs (lockout_bytes p w v few few' c e) =
    let T = S.steps in
    let P : List ℕ → Type 0 = λ l. BadFields S l in
    let Q : List Step → Type 0 = λ l. LockoutRun S p l v in
    let R : List Step → Type 0 = λ l. LockoutRun S p (stem (run_bytes 2 p w v)) l in
    subst P (sym e) (record {
      whole = whole_is T law.steps 2 p w v few few' T.start c.head c.head c.stem_walk c.closed;
      steps = steps_are T law.steps 2 p w v few few' T.start c.head c.head c.stem_walk c.closed;
      bad = inr (
        refl,
        subst R (sym (loop_is T law.steps 2 p w v few few' T.start c.head c.head c.stem_walk c.closed))
            (subst Q (sym (stem_is T law.steps 2 p w v few few' T.start c.head c.head c.stem_walk c.closed)) c),
      );
    })
