-- Reading refuses by the first fault, and what it reads has none.
use Rattle.std.proofs.Common.{◌≡◌, ℕ, zero, suc, ◌+◌, ◌-◌, ◌<◌, ◌≤◌, min, true, false, not, cond, eqb, ltb, leb, ◌⊎◌, List, [], ◌∷◌, length, get_or, take, drop, Some, None, Ok, Err, Option, Result, sym, refl, ap, ◌∙◌, subst, inl, inr, arith, MatchResult}
use Rattle.std.proofs.lemmas.List.{length-take, length-drop, get_or-take, get_or-drop}
use Rattle.std.proofs.lemmas.Bool.{cond_both, not-true, not-false}
use Rattle.std.proofs.lemmas.Bool.Decides.{nat_tests}
use Rattle.system.specs.Justice.{FairSystem, Lawful}
use Rattle.byte_numbers.specs.Numbers.{number_at}
use Rattle.place.specs.declared.Place.{Place}
use Rattle.run_rules.specs.declared.Kind.{Kind}
use Rattle.run_rules.specs.declared.Kind.TheVariants.{Clash, Lockout}
use Rattle.run_refusal.specs.declared.RunRefusal.{RunRefusal}
use Rattle.run_refusal.specs.declared.RunRefusal.TheVariants.{WrongLength, WrongKind, WrongProcess, WrongStep, WrongLoopCount}
use Rattle.place.specs.Places.{place}
use Rattle.run_refusal.specs.Refusals.{number, placed}
use Rattle.run_rules.specs.Reading.{and_then, Fields, fields, is_step_lem, no_step, is_process_lem, is_loop_count_lem, kind_at, process_at_lem, count_at, loop_count_at_lem, steps_or, steps_at_lem, ended, read_run_lem}
use Rattle.run_rules.specs.Causes.{Cause, RightRefusal, Field, StepAt}
use Rattle.run_rules.specs.Layout.{stem_length, loop_length, end}
use Rattle.run_rules.proofs.Order.{AheadBy, ahead_by}
use Rattle.run_rules.proofs.Clean.{Clean, Lowest, GoodStep, clean_0, clean_1, clean_2, clean_6, clean_stem, clean_10, clean_loop, first_at}

-- what no_step finds
abbrev NoStep : ℕ → ℕ → List ℕ → Option ℕ → Type 0
NoStep K k xs (Some i) = (j : ℕ) × (i ≡ k + j) × (j < length xs) × (is_step_lem K (get_or xs j 0) ≡ false) × ((l : ℕ) → l < j → is_step_lem K (get_or xs l 0) ≡ true)
NoStep K k xs None = (l : ℕ) → l < length xs → is_step_lem K (get_or xs l 0) ≡ true

no_step_told : (K k : ℕ) (xs : List ℕ) → NoStep K k xs (no_step K k xs)
no_step_told K k [] = λ l h. absurd (omega arith)
no_step_told K k (b ∷ xs) =
    cond_both (not (is_step_lem K b)) (Some k) (no_step K (k + 1) xs) (NoStep K k (b ∷ xs))
    (λ e. (0, omega arith, omega arith, not-true (is_step_lem K b) e, λ l h. absurd (omega arith)))
    (λ e. later (not-false (is_step_lem K b) e) (no_step K (k + 1) xs) (no_step_told K (k + 1) xs))
  where
    each : is_step_lem K b ≡ true → (j : ℕ) → ((l : ℕ) → l < j → is_step_lem K (get_or xs l 0) ≡ true) → (l : ℕ) → l < suc j → is_step_lem K (get_or (b ∷ xs) l 0) ≡ true
    each e j h zero q = e
    each e j h (suc l) q = h l (omega arith)

    later : is_step_lem K b ≡ true → (o : Option ℕ) → NoStep K (k + 1) xs o → NoStep K k (b ∷ xs) o
    later e (Some i) w = let q = w.1 in let r = w.2 in (suc w.0, omega arith, omega arith, w.3, each e w.0 w.4)
    later e None w = each e (length xs) w

abbrev pub KindIs : Kind → ℕ → Type 0
KindIs Clash b = b ≡ 1
KindIs Lockout b = b ≡ 2

abbrev pub ProcessIs : FairSystem → Kind → ℕ → Type 0
ProcessIs S Clash p = p ≡ 0
ProcessIs S Lockout p = p < S.steps.processes

abbrev pub LoopIs : Kind → ℕ → Type 0
LoopIs Clash n = n ≡ 0
LoopIs Lockout n = 0 < n

pub record Read (S : FairSystem) (bs : List ℕ) (f : Fields) : Type 0 where
  pub clean : Clean S bs (end bs)
  pub whole : length bs ≡ end bs
  pub kind_is : KindIs f.kind (get_or bs 0 0)
  pub process_is : ProcessIs S f.kind (get_or bs 1 0)
  pub loop_is : LoopIs f.kind (loop_length bs)
  pub process : f.process ≡ get_or bs 1 0
  pub stem : f.stem ≡ take (stem_length bs) (drop 6 bs)
  pub cycle : f.cycle ≡ take (loop_length bs) (drop (10 + stem_length bs) bs)
  pub steps : (i : ℕ) → StepAt bs i → GoodStep S bs i

module _ (S : FairSystem) (bs : List ℕ) where
  abbrev pub Refused : RunRefusal → Type 0
  Refused e = RightRefusal S bs e × (number e ≤ 35)

  abbrev pub Outcome : Result Fields RunRefusal → Type 0
  Outcome (Ok f) = Read S bs f
  Outcome (Err e) = Refused e

  chain : {X : Type 0} (r : Result X RunRefusal) (P : X → Type 0) (f : X → Result Fields RunRefusal) → MatchResult r P Refused → ((x : X) → P x → Outcome (f x)) → Outcome (and_then r f)
  chain (Ok x) P f c g = g x c
  chain (Err e) P f c g = c

  chain_is : {X : Type 0} (r : Result X RunRefusal) (v : X) (Q : Type 0) (f : X → Result Fields RunRefusal) → MatchResult r (λ x. (x ≡ v) × Q) Refused → (Q → Outcome (f v)) → Outcome (and_then r f)
  chain_is (Ok x) v Q f c g = let P : _ → Type 0 = λ y. Outcome (f y) in subst P (sym c.0) (g c.1)
  chain_is (Err e) v Q f c g = c

  -- The refusal e, at the byte x, is right where the bytes before x have no fault and none at x comes before e.
  refuse : (e : RunRefusal) (x : ℕ) → number e ≤ 35 → placed e ≡ place 0 x 0 → Clean S bs x → Lowest S bs (number e) x → Cause S bs e → Refused e
  refuse e x h at w l c = (
    record {
      holds = c;
      first = λ d k a. first_at S bs (number e) x h w l d k (let P : Place → Type 0 = λ b. AheadBy (number d) (placed d) (number e) b in subst P at (ahead_by d e a));
    },
    h,
  )

  refuse_short : (i : ℕ) → Clean S bs i → Cause S bs (WrongLength i) → Refused (WrongLength i)
  refuse_short i w c =
      refuse (WrongLength i) i (omega arith) refl w
      (record { short = λ _. omega arith; kind = λ _ _. omega arith; process = λ _ _. omega arith; step = λ _. omega arith }) c

  refuse_kind : Cause S bs WrongKind → Refused WrongKind
  refuse_kind c =
      refuse WrongKind 0 (omega arith) refl (clean_0 S bs)
      (record { short = λ d. grind arith; kind = λ _ _. omega arith; process = λ _ _. omega arith; step = λ _. omega arith }) c

  refuse_process : Clean S bs 1 → Cause S bs WrongProcess → Refused WrongProcess
  refuse_process w c =
      refuse WrongProcess 1 (omega arith) refl w
      (record { short = λ d. grind arith; kind = λ e _. absurd (omega arith); process = λ _ _. omega arith; step = λ _. omega arith }) c

  refuse_step : (i : ℕ) → Clean S bs i → Cause S bs (WrongStep i) → Refused (WrongStep i)
  refuse_step i w c =
      refuse (WrongStep i) i (omega arith) refl w
      (record { short = λ d. grind arith; kind = λ e _. grind arith; process = λ e _. grind arith; step = λ _. omega arith }) c

  refuse_loop : (i : ℕ) → Clean S bs i → Cause S bs (WrongLoopCount i) → Refused (WrongLoopCount i)
  refuse_loop i w c =
      refuse (WrongLoopCount i) i (omega arith) refl w
      (record { short = λ d. grind arith; kind = λ e _. grind arith; process = λ e _. grind arith; step = λ d. grind arith }) c

  kind_told : MatchResult (kind_at bs) (λ k. (0 < length bs) × KindIs k (get_or bs 0 0)) Refused
  kind_told =
      cond_both (eqb (length bs) 0) _ _ P
      (λ e. let q : length bs ≡ 0 = grind (arith, nat_tests) in refuse_short 0 (clean_0 S bs) (inl (1, inl (refl, inl (omega arith)), omega arith)))
      (λ e. let q : 0 < length bs = grind (arith, nat_tests) in
      cond_both (eqb (get_or bs 0 0) 1) _ _ P (λ e. (q, grind (arith, nat_tests)))
      (λ a. cond_both (eqb (get_or bs 0 0) 2) _ _ P (λ e. (q, grind (arith, nat_tests)))
      (λ b. refuse_kind (q, (λ z. grind (arith, nat_tests)), (λ z. grind (arith, nat_tests))))))
    where
      P : Result Kind RunRefusal → Type 0
      P r = MatchResult r (λ k. (0 < length bs) × KindIs k (get_or bs 0 0)) Refused

  process_told : (k : Kind) → KindIs k (get_or bs 0 0) → Clean S bs 1 → 0 < length bs
      → MatchResult (process_at_lem S.steps.processes k bs) (λ p. (p ≡ get_or bs 1 0) × ((1 < length bs) × ProcessIs S k (get_or bs 1 0))) Refused
  process_told k ki w h =
      cond_both (ltb (length bs) 2) _ _ P
      (λ e. let q : length bs < 2 = grind (arith, nat_tests) in refuse_short 1 w (inl (1, inl (refl, inl (omega arith)), omega arith)))
      (λ e. let q : 1 < length bs = grind (arith, nat_tests) in
      cond_both (is_process_lem S.steps.processes k (get_or bs 1 0)) _ _ P (λ e. (refl, (q, good k e))) (λ e. refuse_process w (q, bad k ki e)))
    where
      P : Result ℕ RunRefusal → Type 0
      P r = MatchResult r (λ p. (p ≡ get_or bs 1 0) × ((1 < length bs) × ProcessIs S k (get_or bs 1 0))) Refused

      good : (k : Kind) → is_process_lem S.steps.processes k (get_or bs 1 0) ≡ true → ProcessIs S k (get_or bs 1 0)
      good Clash e = grind (arith, nat_tests)
      good Lockout e = grind (arith, nat_tests)

      bad : (k : Kind) → KindIs k (get_or bs 0 0) → is_process_lem S.steps.processes k (get_or bs 1 0) ≡ false → (S.steps.processes ≤ get_or bs 1 0) ⊎ ((get_or bs 0 0 ≡ 1) × ¬ (get_or bs 1 0 ≡ 0))
      bad Clash i e = inr (i, (λ z. grind (arith, nat_tests)))
      bad Lockout i e = inl (grind (arith, nat_tests))

  count_told : (at : ℕ) → Field bs at 4 → Clean S bs at → MatchResult (count_at bs at) (λ n. (n ≡ number_at bs at) × (at + 4 ≤ length bs)) Refused
  count_told at f w =
      cond_both (leb (at + 4) (length bs)) _ _ P
      (λ e. (refl, grind (arith, nat_tests)))
      (λ e. refuse_short at w (inl (4, f, grind (arith, nat_tests))))
    where
      P : Result ℕ RunRefusal → Type 0
      P r = MatchResult r (λ n. (n ≡ number_at bs at) × (at + 4 ≤ length bs)) Refused

  loop_told : (k : Kind) → KindIs k (get_or bs 0 0) → Clean S bs (6 + stem_length bs)
      → MatchResult (loop_count_at_lem k bs (6 + stem_length bs)) (λ m. (m ≡ loop_length bs) × ((10 + stem_length bs ≤ length bs) × LoopIs k (loop_length bs))) Refused
  loop_told k ki w = told (count_at bs at) (count_told at (inr (refl, inr refl)) w)
    where
      at : ℕ
      at = 6 + stem_length bs

      P : Result ℕ RunRefusal → Type 0
      P r = MatchResult r (λ m. (m ≡ loop_length bs) × ((10 + stem_length bs ≤ length bs) × LoopIs k (loop_length bs))) Refused

      good : (k : Kind) (m : ℕ) → m ≡ loop_length bs → is_loop_count_lem k m ≡ true → LoopIs k (loop_length bs)
      good Clash m q e = grind (arith, nat_tests)
      good Lockout m q e = grind (arith, nat_tests)

      bad : (k : Kind) (m : ℕ) → KindIs k (get_or bs 0 0) → m ≡ loop_length bs → is_loop_count_lem k m ≡ false → ((get_or bs 0 0 ≡ 2) × (loop_length bs ≡ 0)) ⊎ ((get_or bs 0 0 ≡ 1) × ¬ (loop_length bs ≡ 0))
      bad Clash m i q e = inr (i, (λ z. grind (arith, nat_tests)))
      bad Lockout m i q e = inl (i, grind (arith, nat_tests))

      told : (r : Result ℕ RunRefusal) → MatchResult r (λ n. (n ≡ number_at bs at) × (at + 4 ≤ length bs)) Refused → P (and_then r (λ n. cond (is_loop_count_lem k n) (Ok n) (Err (WrongLoopCount at))))
      told (Err e) c = c
      told (Ok m) c =
          cond_both (is_loop_count_lem k m) _ _ P (λ e. (c.0, (let h = c.1 in omega arith, good k m c.0 e)))
          (λ e. refuse_loop at w (refl, c.1, bad k m ki c.0 e))

  -- n step bytes from `at` on
  module _ (at n : ℕ) (there : at ≤ length bs) (ours : (i : ℕ) → at ≤ i → i < at + n → StepAt bs i)
      (cleans : (x : ℕ) → at ≤ x → x ≤ at + n → x ≤ length bs → ((i : ℕ) → at ≤ i → i < x → GoodStep S bs i) → Clean S bs x) where
    abbrev xs : List ℕ
    xs = take n (drop at bs)

    sized : length xs ≡ min n (length bs - at)
    sized = simp (length-take, length-drop)

    byte_at : (j : ℕ) → j < length xs → get_or xs j 0 ≡ get_or bs (at + j) 0
    byte_at j h = let z = sized in let q : j < n = grind arith in get_or-take n (drop at bs) j 0 q ∙ get_or-drop at bs j 0

    good_byte : (b : ℕ) → is_step_lem S.steps.commands b ≡ true → (b ≡ 255) ⊎ (b < S.steps.commands)
    good_byte b e = grind (arith, nat_tests)

    good_to : (x : ℕ) → x ≤ length xs → ((l : ℕ) → l < x → is_step_lem S.steps.commands (get_or xs l 0) ≡ true) → (i : ℕ) → at ≤ i → i < at + x → GoodStep S bs i
    good_to x h f i low high =
        let l : i - at < x = omega arith in
        let b = byte_at (i - at) (omega arith) in
        let q : at + (i - at) ≡ i = omega arith in
        good_byte (get_or bs i 0) (ap (is_step_lem S.steps.commands) (sym (b ∙ ap (λ m. get_or bs m 0) q)) ∙ f (i - at) l)

    bad_byte : (b c : ℕ) → b ≡ c → is_step_lem S.steps.commands b ≡ false → ¬ (c ≡ 255) × (S.steps.commands ≤ c)
    bad_byte b c q e = ((λ z. grind (arith, nat_tests)), grind (arith, nat_tests))

    abbrev StepsTold : Result (List ℕ) RunRefusal → Type 0
    StepsTold r = MatchResult r (λ ys. (ys ≡ xs) × ((at + n ≤ length bs) × ((i : ℕ) → at ≤ i → i < at + n → GoodStep S bs i))) Refused

    told_by : (o : Option ℕ) → NoStep S.steps.commands 0 xs o → StepsTold (steps_or o bs at n)
    told_by (Some i) w =
        let j = w.0 in
        let z = sized in
        let h = w.2 in
        let e : i ≡ j = w.1 ∙ omega arith in
        let P : ℕ → Type 0 = λ m. Refused (WrongStep (at + m)) in
        let b = bad_byte (get_or xs j 0) (get_or bs (at + j) 0) (byte_at j h) w.3 in
        subst P (sym e) (refuse_step (at + j)
        (cleans (at + j) (omega arith) (grind arith) (grind arith) (good_to j (omega arith) w.4))
        (ours (at + j) (omega arith) (grind arith), grind arith, b.0, b.1))
    told_by None w =
        let z = sized in
        cond_both (ltb (length bs) (at + n)) _ _ StepsTold
        (λ e. let q : length bs < at + n = grind (arith, nat_tests) in
        refuse_short (length bs)
        (cleans (length bs) there (omega arith) (omega arith) (λ i low high. good_to (length xs) (omega arith) w i low (grind arith)))
        (inl (1, inl (refl, inr (ours (length bs) there q)), omega arith)))
        (λ e. let q : at + n ≤ length bs = grind (arith, nat_tests) in
        (refl, (q, λ i low high. good_to (length xs) (omega arith) w i low (grind arith))))

    steps_told : StepsTold (steps_at_lem S.steps.commands bs at n)
    steps_told = told_by (no_step S.steps.commands 0 xs) (no_step_told S.steps.commands 0 xs)

  kind_either : (k : Kind) (b : ℕ) → KindIs k b → (b ≡ 1) ⊎ (b ≡ 2)
  kind_either Clash b e = inl e
  kind_either Lockout b e = inr e

  process_either : (k : Kind) (b p : ℕ) → KindIs k b → ProcessIs S k p → ((b ≡ 1) × (p ≡ 0)) ⊎ ((b ≡ 2) × (p < S.steps.processes))
  process_either Clash b p e h = inl (e, h)
  process_either Lockout b p e h = inr (e, h)

  loop_either : (k : Kind) (b m : ℕ) → KindIs k b → LoopIs k m → ((b ≡ 1) × (m ≡ 0)) ⊎ ((b ≡ 2) × (0 < m))
  loop_either Clash b m e h = inl (e, h)
  loop_either Lockout b m e h = inr (e, h)

  ended_told : (f : Fields) → (length bs ≤ end bs → Read S bs f) → Clean S bs (end bs) → Outcome (ended bs (end bs) f)
  ended_told f ok w =
      cond_both (ltb (end bs) (length bs)) _ _ Outcome
      (λ e. let q : end bs < length bs = grind (arith, nat_tests) in refuse_short (end bs) w (inr (refl, q)))
      (λ e. ok (grind (arith, nat_tests)))

  pub outcome : Lawful S → Outcome (read_run_lem S.steps bs)
  outcome law =
      chain (kind_at bs) (λ k. (0 < length bs) × KindIs k (get_or bs 0 0)) _ kind_told (λ k kh.
      let w1 = clean_1 S bs kh.0 (kind_either k (get_or bs 0 0) kh.1) in
      chain_is (process_at_lem S.steps.processes k bs) (get_or bs 1 0) ((1 < length bs) × ProcessIs S k (get_or bs 1 0)) _ (process_told k kh.1 w1 kh.0) (λ ph.
      let w2 = clean_2 S bs law w1 ph.0 (process_either k (get_or bs 0 0) (get_or bs 1 0) kh.1 ph.1) in
      chain_is (count_at bs 2) (stem_length bs) (6 ≤ length bs) _ (count_told 2 (inr (refl, inl refl)) w2) (λ ch.
      let w6 = clean_6 S bs w2 ch in
      chain_is (steps_at_lem S.steps.commands bs 6 (stem_length bs)) (take (stem_length bs) (drop 6 bs)) _ _
      (steps_told 6 (stem_length bs) ch (λ i a b. inl (a, b)) (λ x a b c d. clean_stem S bs x w6 a b c d)) (λ sh.
      let ws = clean_stem S bs (6 + stem_length bs) w6 (omega arith) (omega arith) sh.0 sh.1 in
      chain_is (loop_count_at_lem k bs (6 + stem_length bs)) (loop_length bs) _ _ (loop_told k kh.1 ws) (λ lh.
      let wl = clean_10 S bs ws lh.0 (loop_either k (get_or bs 0 0) (loop_length bs) kh.1 lh.1) in
      chain_is (steps_at_lem S.steps.commands bs (10 + stem_length bs) (loop_length bs)) (take (loop_length bs) (drop (10 + stem_length bs) bs)) _ _
      (steps_told (10 + stem_length bs) (loop_length bs) lh.0 (λ i a b. inr (a, b)) (λ x a b c d. clean_loop S bs x wl a b c d)) (λ eh.
      let we = clean_loop S bs (end bs) wl (omega arith) (omega arith) eh.0 eh.1 in
      ended_told (fields k (get_or bs 1 0) (take (stem_length bs) (drop 6 bs)) (take (loop_length bs) (drop (10 + stem_length bs) bs)))
      (λ l. record {
        clean = we;
        whole = (let a = eh.0 in omega arith);
        kind_is = kh.1;
        process_is = ph.1;
        loop_is = lh.1;
        process = refl;
        stem = refl;
        cycle = refl;
        steps = λ i z. elim z [ inl a ↦ sh.1 i a.0 a.1 | inr a ↦ eh.1 i a.0 a.1 ];
      }) we))))))
