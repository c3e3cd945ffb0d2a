-- The answer is acceptance of the fields of a bad run, or the right refusal.
use Rattle.std.proofs.Common.{◌≡◌, ℕ, suc, ◌+◌, ◌-◌, ◌<◌, ◌≤◌, min, Bool, true, false, cond, eqb, ◌⊎◌, List, [], ◌∷◌, ◌++◌, map, length, get_or, take, drop, Some, None, Ok, Err, Option, Result, sym, refl, ap, ◌∙◌, subst, inl, inr, arith}
use Rattle.std.proofs.lemmas.List.{map-append, take-take, get_or-take, length-take, length-drop, length-map}
use Rattle.std.proofs.lemmas.Bool.{cond_both}
use Rattle.std.proofs.lemmas.Bool.Decides.{nat_tests, not_from_Decides}
use Rattle.system.specs.Transitions.{Transitions, Waits, Enabled, Clash as Clashes}
use Rattle.system.specs.Runs.{Step, command, rest, Leads, Walk}
use Rattle.system.specs.Justice.{FairSystem, Lawful, ClassDisabled}
use Rattle.system.specs.Tests.{is_clash_lem}
use Rattle.system.proofs.Decided.{is_clash_decides}
use Rattle.lasso.specs.BadRuns.{LoopState, ClashRun, LockoutRun}
use Rattle.lasso.proofs.Lasso.{walk_one}
use Rattle.place.specs.declared.Place.{Place}
use Rattle.run_rules.specs.declared.Kind.{Kind}
use Rattle.run_rules.specs.declared.Kind.TheVariants.{Clash, Lockout}
use Rattle.run_refusal.specs.declared.RunRefusal.{RunRefusal}
use Rattle.run_refusal.specs.declared.RunRefusal.TheVariants.{WrongLength, WrongKind, WrongProcess, WrongStep, WrongLoopCount, StepDisabled, NoClash, LoopOpen, NotWaiting, ClassNeglected}
use Rattle.place.specs.Places.{place}
use Rattle.run_refusal.specs.Refusals.{number, placed}
use Rattle.run_rules.specs.Layout.{stem_length, loop_length, end, step_of, stem, cycle}
use Rattle.run_rules.specs.Reading.{and_then, Fields, read_run_lem}
use Rattle.run_rules.specs.Judging.{or_else, after, walked, least_idle, neglected, least, judged_loop, judged_clash, judged_lockout, judged_by, judged, run_answer}
use Rattle.run_rules.specs.Causes.{Cause, Ahead, PlaceBefore, RightRefusal, StepAt}
use Rattle.run_rules.proofs.Order.{AheadBy, ahead_by}
use Rattle.run_rules.proofs.Front.{KindIs, ProcessIs, LoopIs, Read, Outcome, outcome}
use Rattle.run_rules.proofs.Paths.{Stuck, WalkTold, walk_told, walk_through, IdleTold, idle_told, NeglectedTold, neglected_told, LeastTold, least_told}

-- The fields of the bytes are those of a bad run.
pub record BadFields (S : FairSystem) (bs : List ℕ) : Type 0 where
  pub whole : length bs ≡ end bs
  pub steps : (i : ℕ) → StepAt bs i → (get_or bs i 0 ≡ 255) ⊎ (get_or bs i 0 < S.steps.commands)
  pub bad :
      ((get_or bs 0 0 ≡ 1) × (get_or bs 1 0 ≡ 0) × (loop_length bs ≡ 0) × ClashRun S.steps (stem bs))
      ⊎ ((get_or bs 0 0 ≡ 2) × LockoutRun S (get_or bs 1 0) (stem bs) (cycle bs))

-- among the causes after reading
abbrev Later : ℕ → Place → ℕ → Place → Type 0
Later m a n b = (m < n) ⊎ ((m ≡ n) × PlaceBefore a b)

ahead_later : (m : ℕ) (a : Place) (n : ℕ) (b : Place) → 36 ≤ m → AheadBy m a n b → Later m a n b
ahead_later m a n b h (inl x) = let y = x.0 in absurd (omega arith)
ahead_later m a n b h (inr (inl x)) = let y = x.0 in absurd (omega arith)
ahead_later m a n b h (inr (inr x)) = x.2

walk_append : (T : Transitions) (v w : List Step) (s t u : ℕ) → Walk T s v t → Walk T t w u → Walk T s (v ++ w) u
walk_append T [] w s t u h g = let P : ℕ → Type 0 = λ n. Walk T n w u in subst P (sym h) g
walk_append T (a ∷ v) w s t u h g = (h.0, h.1, walk_append T v w h.0 t u h.2 g)

walked_append : (T : Transitions) (xs ys : List ℕ) (s n : ℕ) → walked T s n (xs ++ ys) ≡ and_then (walked T s n xs) (λ t. walked T t (n + length xs) ys)
walked_append T [] ys s n = ap (λ m. walked T s m ys) (let q : n ≡ n + 0 = omega arith in q)
walked_append T (b ∷ xs) ys s n = by_after (λ t. walked_append T xs ys t (n + 1)) (after T s b)
  where
    by_after : ((t : ℕ) → walked T t (n + 1) (xs ++ ys) ≡ and_then (walked T t (n + 1) xs) (λ t. walked T t ((n + 1) + length xs) ys)) → (o : Option ℕ)
        → or_else o (λ t. walked T t (n + 1) (xs ++ ys)) (Err (StepDisabled n b)) ≡ and_then (or_else o (λ t. walked T t (n + 1) xs) (Err (StepDisabled n b))) (λ t. walked T t (n + suc (length xs)) ys)
    by_after f (Some t) = f t ∙ ap (λ m. and_then (walked T t (n + 1) xs) (λ t. walked T t m ys)) (let q : (n + 1) + length xs ≡ n + suc (length xs) = omega arith in q)
    by_after f None = refl

-- a step of a walk is enabled
no_stuck : (T : Transitions) (w : List Step) (s t i u k : ℕ) → Walk T s w t → i < length w → Walk T s (take i w) u → get_or w i rest ≡ command k → ¬ Enabled T u k → ⊥
no_stuck T w s t i u k h l g e n =
    let x = walk_through T w s t i h l in
    let q = walk_one T (take i w) s x.0 u x.2 g in
    let P : ℕ → Type 0 = λ m. Leads T m (get_or w i rest) x.1 in
    let Q : Step → Type 0 = λ a. Leads T u a x.1 in
    n (x.1, subst Q e (subst P q x.3))

module _ (S : FairSystem) (law : Lawful S) (bs : List ℕ) where
  abbrev T : Transitions
  T = S.steps

  abbrev stem_bytes : List ℕ
  stem_bytes = take (stem_length bs) (drop 6 bs)

  abbrev loop_bytes : List ℕ
  loop_bytes = take (loop_length bs) (drop (10 + stem_length bs) bs)

  abbrev steps : List Step
  steps = stem bs ++ cycle bs

  record Above (n : ℕ) (b : Place) : Type 0 where
    disabled : (i k : ℕ) → Cause S bs (StepDisabled i k) → ¬ Later 36 (place 0 i k) n b
    no_clash : (s : ℕ) → Cause S bs (NoClash s) → ¬ Later 37 (place 0 s 0) n b
    not_closed : (s : ℕ) → Cause S bs (LoopOpen s) → ¬ Later 38 (place 0 s 0) n b
    not_waiting : (p s : ℕ) → Cause S bs (NotWaiting p s) → ¬ Later 39 (place p s 0) n b
    not_just : (j : ℕ) → Cause S bs (ClassNeglected j) → ¬ Later 40 (place 0 0 j) n b

  module _ (f : Fields) (read : Read S bs f) where
    good_step : (i : ℕ) → Cause S bs (WrongStep i) → ⊥
    good_step i c = let g = read.steps i c.0 in let a = c.2 in let b = c.3 in grind arith

    first_by : (n : ℕ) (b : Place) → Above n b → (d : RunRefusal) → Cause S bs d → ¬ AheadBy (number d) (placed d) n b
    first_by n b w (WrongLength i) c a = let x = read.clean.short i c in let y = read.whole in grind arith
    first_by n b w WrongKind c a = let x = read.clean.kind c in absurd (omega arith)
    first_by n b w WrongProcess c a = let x = read.clean.process c in absurd (omega arith)
    first_by n b w (WrongStep i) c a = good_step i c
    first_by n b w (WrongLoopCount i) c a = let x = read.clean.loop i c in let y = c.0 in absurd (omega arith)
    first_by n b w (StepDisabled i k) c a = w.disabled i k c (ahead_later 36 (place 0 i k) n b (omega arith) a)
    first_by n b w (NoClash s) c a = w.no_clash s c (ahead_later 37 (place 0 s 0) n b (omega arith) a)
    first_by n b w (LoopOpen s) c a = w.not_closed s c (ahead_later 38 (place 0 s 0) n b (omega arith) a)
    first_by n b w (NotWaiting p s) c a = w.not_waiting p s c (ahead_later 39 (place p s 0) n b (omega arith) a)
    first_by n b w (ClassNeglected j) c a = w.not_just j c (ahead_later 40 (place 0 0 j) n b (omega arith) a)

    first_judged : (e : RunRefusal) → Above (number e) (placed e) → (d : RunRefusal) → Cause S bs d → ¬ Ahead (number d) (placed d) (number e) (placed e)
    first_judged e w d c a = first_by (number e) (placed e) w d c (ahead_by d e a)

    -- 36
    stuck_at : (j k u : ℕ) → Walk T T.start (take j steps) u → j < length steps → get_or steps j rest ≡ command k → ¬ Enabled T u k → RightRefusal S bs (StepDisabled j k)
    stuck_at j k u w l e n = record {
      holds = (u, w, l, e, n);
      first = first_judged (StepDisabled j k) (record {
        disabled = λ i m c x. elim x [
          | inl y ↦ omega arith
          | inr y ↦ elim y.1 [ inl z ↦ omega arith | inr z ↦ elim z.1 [ inl v ↦ sooner i m c v | inr v ↦ same i m c v.0 v.1 ] ]
        ];
        no_clash = λ s c x. grind arith;
        not_closed = λ s c x. grind arith;
        not_waiting = λ p s c x. grind arith;
        not_just = λ j c x. grind arith;
      });
    }
      where
        sooner : (i m : ℕ) → Cause S bs (StepDisabled i m) → i < j → ⊥
        sooner i m c v =
            let q : i ≤ j = omega arith in
            let a = take-take i j steps q in
            let b = get_or-take j steps i rest v in
            let h : i < length (take j steps) = simp length-take (grind arith) in
            let P : List Step → Type 0 = λ w. Walk T T.start w c.0 in
            no_stuck T (take j steps) T.start u i c.0 m w h (subst P (sym a) c.1) (b ∙ c.3) c.4

        same : (i m : ℕ) → Cause S bs (StepDisabled i m) → i ≡ j → m < k → ⊥
        same i m c v h =
            let a = c.3 in
            let b : get_or steps i rest ≡ get_or steps j rest = ap (λ n. get_or steps n rest) v in
            let q : k ≡ m = cc in
            omega arith

    whole_map : map step_of (stem_bytes ++ loop_bytes) ≡ steps
    whole_map = map-append step_of stem_bytes loop_bytes

    stuck_decides : (e : RunRefusal) → Stuck T T.start 0 (stem_bytes ++ loop_bytes) e → RightRefusal S bs e
    stuck_decides e k =
        let j = k.place in
        let b = get_or (stem_bytes ++ loop_bytes) j 0 in
        let q : 0 + j ≡ j = omega arith in
        let W : List Step → Type 0 = λ w. Walk T T.start (take j w) k.state in
        let P : RunRefusal → Type 0 = λ d. RightRefusal S bs d in
        let l = k.within in
        subst P (sym (k.is ∙ ap (λ n. StepDisabled n b) q))
        (stuck_at j b k.state (subst W whole_map k.walk)
        (let h : j < length (map step_of (stem_bytes ++ loop_bytes)) = simp length-map (omega arith) in
        let L : List Step → Type 0 = λ w. j < length w in subst L whole_map h)
        (ap (λ w. get_or w j rest) (sym whole_map) ∙ k.step)
        (λ en. let a = en.1 in let c = k.none in let z : ◌≡◌ {A = ℕ} 0 1 = cc in omega arith))

    whole_err : (e : RunRefusal) → walked T T.start 0 (stem_bytes ++ loop_bytes) ≡ Err e → RightRefusal S bs e
    whole_err e q = let P : Result ℕ RunRefusal → Type 0 = λ r. WalkTold T T.start 0 (stem_bytes ++ loop_bytes) r in
        stuck_decides e (subst P q (walk_told T T.start 0 (stem_bytes ++ loop_bytes)))

    abbrev Told : Result (Unit {0}) RunRefusal → Type 0
    Told (Ok x) = BadFields S bs
    Told (Err e) = RightRefusal S bs e

    -- once the whole walk is possible, no step is disabled
    walks_on : (t : ℕ) → Walk T T.start steps t → (i k : ℕ) → Cause S bs (StepDisabled i k) → ⊥
    walks_on t w i k c = no_stuck T steps T.start t i c.0 k w c.2 c.1 c.3 c.4

    -- 37 and acceptance of a clash
    module _ (kind : get_or bs 0 0 ≡ 1) (process : get_or bs 1 0 ≡ 0) (empty : loop_length bs ≡ 0) where
      clash_end : (s : ℕ) → Walk T T.start (stem bs) s → Told (cond (is_clash_lem T s) (Ok tt) (Err (NoClash s)))
      clash_end s w =
          cond_both (is_clash_lem T s) (Ok tt) (Err (NoClash s)) Told
          (λ e. record { whole = read.whole; steps = read.steps; bad = inl (kind, process, empty, record { last = s; stem_walk = w; clashes = (is_clash_decides T s).0 e }) })
          (λ e. record {
            holds = (kind, w, not_from_Decides (is_clash_lem T s) (is_clash_decides T s) e);
            first = first_judged (NoClash s) (record {
              disabled = λ i k c x. walks_on s whole_walk i k c;
              no_clash = λ t c x. (let q = walk_one T (stem bs) T.start s t w c.1 in grind arith);
              not_closed = λ t c x. grind arith;
              not_waiting = λ p t c x. grind arith;
              not_just = λ j c x. grind arith;
            });
          })
        where
          no_loop : Walk T s (cycle bs) s
          no_loop = let P : ℕ → Type 0 = λ n. Walk T s (map step_of (take n (drop (10 + stem_length bs) bs))) s in subst P (sym empty) refl

          whole_walk : Walk T T.start steps s
          whole_walk = walk_append T (stem bs) (cycle bs) T.start s s w no_loop

      clash_told : Told (judged_clash S stem_bytes)
      clash_told = by_walk (walked T T.start 0 stem_bytes) refl (walk_told T T.start 0 stem_bytes)
        where
          by_walk : (r : Result ℕ RunRefusal) → walked T T.start 0 stem_bytes ≡ r → WalkTold T T.start 0 stem_bytes r
              → Told (and_then r (λ s. cond (is_clash_lem T s) (Ok tt) (Err (NoClash s))))
          by_walk (Ok s) e w = clash_end s w
          by_walk (Err d) e w = whole_err d (walked_append T stem_bytes loop_bytes T.start 0 ∙ ap (λ r. and_then r (λ t. walked T t (0 + length stem_bytes) loop_bytes)) e)

    -- 38, 39, 40 and acceptance of a lockout
    module _ (kind : get_or bs 0 0 ≡ 2) (process : get_or bs 1 0 < T.processes) (some : 0 < loop_length bs) where
      other_kind : (s : ℕ) → Cause S bs (NoClash s) → ⊥
      other_kind s c = let k = c.0 in omega arith

      -- the stem's end is s
      module _ (s : ℕ) (sw : Walk T T.start (stem bs) s) where
        at_head : (X : ℕ → Type 0) (h : ℕ) → Walk T T.start (stem bs) h → X h → X s
        at_head X h w x = subst X (walk_one T (stem bs) T.start h s w sw) x

        not_closed_told : (t : ℕ) → Walk T s (cycle bs) t → ¬ (t ≡ s) → RightRefusal S bs (LoopOpen t)
        not_closed_told t w n = record {
          holds = (kind, (s, sw, w, (λ e. n (sym e))));
          first = first_judged (LoopOpen t) (record {
            disabled = λ i k c x. walks_on t (walk_append T (stem bs) (cycle bs) T.start s t sw w) i k c;
            no_clash = λ u c x. other_kind u c;
            not_closed = λ u c x. (let q = walk_one T (cycle bs) s t u w (at_head (λ h. Walk T h (cycle bs) u) c.1.0 c.1.1 c.1.2) in grind arith);
            not_waiting = λ p t c x. grind arith;
            not_just = λ j c x. grind arith;
          });
        }

        -- the loop ends in s
        module _ (w : Walk T s (cycle bs) s) where
          ever_on : (i k : ℕ) → Cause S bs (StepDisabled i k) → ⊥
          ever_on i k c = walks_on s (walk_append T (stem bs) (cycle bs) T.start s s sw w) i k c

          is_closed : (t : ℕ) → Cause S bs (LoopOpen t) → ⊥
          is_closed t c =
              let h = c.1 in
              let a = walk_one T (stem bs) T.start h.0 s h.1 sw in
              let q = walk_one T (cycle bs) s s t w (at_head (λ h. Walk T h (cycle bs) t) h.0 h.1 h.2) in
              h.3 (a ∙ q)

          idle_decides : (u : ℕ) → IdleTold T (get_or bs 1 0) None s loop_bytes (Some u) → RightRefusal S bs (NotWaiting (get_or bs 1 0) u)
          idle_decides u i = record {
            holds = elim i.0 [ inl e ↦ cc | inr h ↦ (kind, refl, (s, sw, h.0, h.1)) ];
            first = first_judged (NotWaiting (get_or bs 1 0) u) (record {
              disabled = λ i k c x. ever_on i k c;
              no_clash = λ t c x. other_kind t c;
              not_closed = λ t c x. is_closed t c;
              not_waiting = λ p t c x. (let e = c.1 in let q = lowest p t c in grind arith);
              not_just = λ j c x. grind arith;
            });
          }
            where
              lowest : (p t : ℕ) → Cause S bs (NotWaiting p t) → u ≤ t
              lowest p t c =
                  let h = c.2 in
                  let P : ℕ → Type 0 = λ n. ¬ Waits T n t in
                  i.2 t (at_head (λ m. LoopState T m (cycle bs) t) h.0 h.1 h.2) (subst P c.1 h.3)

          -- every loop state waits
          module _ (all : (u : ℕ) → LoopState T s (cycle bs) u → Waits T (get_or bs 1 0) u) where
            none_idle : (p t : ℕ) → Cause S bs (NotWaiting p t) → ⊥
            none_idle p t c =
                let h = c.2 in
                let P : ℕ → Type 0 = λ n. ¬ Waits T n t in
                subst P c.1 h.3 (all t (at_head (λ m. LoopState T m (cycle bs) t) h.0 h.1 h.2))

            neglected_is : (j : ℕ) (x : Bool) → neglected S j s loop_bytes ≡ x → NeglectedTold S law j s loop_bytes x
            neglected_is j x e = let P : Bool → Type 0 = λ b. NeglectedTold S law j s loop_bytes b in subst P e (neglected_told S law j s s loop_bytes w)

            well_treated : (j : ℕ) → neglected S j s loop_bytes ≡ false → Cause S bs (ClassNeglected j) → ⊥
            well_treated j e c =
                let h = c.2 in
                elim (neglected_is j false e) [
                  | inl y ↦ at_head (λ m. (u : ℕ) → LoopState T m (cycle bs) u → ¬ ClassDisabled S u j) h.0 h.1 h.2 y.0 y.1 y.2
                  | inr y ↦ h.3 y.0 y.1 y.2
                ]

            class_told : (o : Option ℕ) → LeastTold (λ j. neglected S j s loop_bytes) 0 S.classes o → Told (or_else o (λ j. Err (ClassNeglected j)) (Ok tt))
            class_told None l = record {
              whole = read.whole;
              steps = read.steps;
              bad = inr (
                kind,
                record {
                  process_below = process;
                  head = s;
                  stem_walk = sw;
                  some_step = (let y = read.whole in simp (length-map, length-take, length-drop) (grind arith));
                  closed = w;
                  waiting = all;
                  just_loop = λ j h. neglected_is j false (l j (omega arith) (omega arith));
                },
              );
            }
            class_told (Some j) l = let lt = l.1 in let y = neglected_is j true l.2 in record {
              holds = (kind, omega arith, (s, sw, y.0, y.1));
              first = first_judged (ClassNeglected j) (record {
                disabled = λ i k c x. ever_on i k c;
                no_clash = λ t c x. other_kind t c;
                not_closed = λ t c x. is_closed t c;
                not_waiting = λ p t c x. none_idle p t c;
                not_just = λ i c x. well_treated i (l.3 i (omega arith) (grind arith)) c;
              });
            }

          loop_told : Told (judged_loop S (get_or bs 1 0) s loop_bytes)
          loop_told = by_idle (least_idle T (get_or bs 1 0) None s loop_bytes) (idle_told T (get_or bs 1 0) None s s loop_bytes w)
            where
              by_idle : (o : Option ℕ) → IdleTold T (get_or bs 1 0) None s loop_bytes o
                  → Told (or_else o (λ u. Err (NotWaiting (get_or bs 1 0) u)) (or_else (least (λ j. neglected S j s loop_bytes) 0 S.classes) (λ j. Err (ClassNeglected j)) (Ok tt)))
              by_idle (Some u) i = idle_decides u i
              by_idle None i = class_told i.1 (least (λ j. neglected S j s loop_bytes) 0 S.classes) (least_told (λ j. neglected S j s loop_bytes) 0 S.classes)

        end_told : (t : ℕ) → Walk T s (cycle bs) t → Told (cond (eqb t s) (judged_loop S (get_or bs 1 0) s loop_bytes) (Err (LoopOpen t)))
        end_told t w =
            cond_both (eqb t s) _ _ Told
            (λ e. let q : t ≡ s = grind (arith, nat_tests) in let P : ℕ → Type 0 = λ n. Walk T s (cycle bs) n in loop_told (subst P q w))
            (λ e. not_closed_told t w (λ q. grind (arith, nat_tests)))

      lockout_told : Told (judged_lockout S (get_or bs 1 0) stem_bytes loop_bytes)
      lockout_told = by_stem (walked T T.start 0 stem_bytes) refl (walk_told T T.start 0 stem_bytes)
        where
          whole : walked T T.start 0 (stem_bytes ++ loop_bytes) ≡ and_then (walked T T.start 0 stem_bytes) (λ t. walked T t (length stem_bytes) loop_bytes)
          whole = walked_append T stem_bytes loop_bytes T.start 0 ∙ ap (λ n. and_then (walked T T.start 0 stem_bytes) (λ t. walked T t n loop_bytes)) (let q : 0 + length stem_bytes ≡ length stem_bytes = omega arith in q)

          by_loop : (s : ℕ) → walked T T.start 0 stem_bytes ≡ Ok s → Walk T T.start (stem bs) s → (r : Result ℕ RunRefusal) → walked T s (length stem_bytes) loop_bytes ≡ r
              → WalkTold T s (length stem_bytes) loop_bytes r → Told (and_then r (λ t. cond (eqb t s) (judged_loop S (get_or bs 1 0) s loop_bytes) (Err (LoopOpen t))))
          by_loop s e sw (Ok t) q w = end_told s sw t w
          by_loop s e sw (Err d) q w = whole_err d (whole ∙ ap (λ r. and_then r (λ t. walked T t (length stem_bytes) loop_bytes)) e ∙ q)

          by_stem : (r : Result ℕ RunRefusal) → walked T T.start 0 stem_bytes ≡ r → WalkTold T T.start 0 stem_bytes r
              → Told (and_then r (λ s. and_then (walked T s (length stem_bytes) loop_bytes) (λ t. cond (eqb t s) (judged_loop S (get_or bs 1 0) s loop_bytes) (Err (LoopOpen t)))))
          by_stem (Ok s) e w = by_loop s e w (walked T s (length stem_bytes) loop_bytes) refl (walk_told T s (length stem_bytes) loop_bytes)
          by_stem (Err d) e w = whole_err d (whole ∙ ap (λ r. and_then r (λ t. walked T t (length stem_bytes) loop_bytes)) e)

    judged_told : Told (judged S f)
    judged_told =
        let P : Result (Unit {0}) RunRefusal → Type 0 = λ r. Told r in
        subst P (sym same) (by_kind f.kind read.kind_is read.process_is read.loop_is)
      where
        by_kind : (k : Kind) → KindIs k (get_or bs 0 0) → ProcessIs S k (get_or bs 1 0) → LoopIs k (loop_length bs) → Told (judged_by S k (get_or bs 1 0) stem_bytes loop_bytes)
        by_kind Clash a b c = clash_told a b c
        by_kind Lockout a b c = lockout_told a b c

        same : judged S f ≡ judged_by S f.kind (get_or bs 1 0) stem_bytes loop_bytes
        same =
            ap (λ p. judged_by S f.kind p f.stem f.cycle) read.process
            ∙ ap (λ x. judged_by S f.kind (get_or bs 1 0) x f.cycle) read.stem
            ∙ ap (λ x. judged_by S f.kind (get_or bs 1 0) stem_bytes x) read.cycle

  abbrev pub Answered : Result (Unit {0}) RunRefusal → Type 0
  Answered (Ok x) = BadFields S bs
  Answered (Err e) = RightRefusal S bs e

  pub answered : Answered (run_answer S bs)
  answered = by_read (read_run_lem T bs) (outcome S bs law)
    where
      same : (f : Fields) (r : Read S bs f) (x : Result (Unit {0}) RunRefusal) → Told f r x → Answered x
      same f r (Ok x) h = h
      same f r (Err e) h = h

      by_read : (r : Result Fields RunRefusal) → Outcome S bs r → Answered (and_then r (judged S))
      by_read (Ok f) o = same f o (judged S f) (judged_told f o)
      by_read (Err e) o = o.0

  -- a bad run has no cause against it
  module _ (bad : BadFields S bs) where
    pub bad_none : (d : RunRefusal) → Cause S bs d → ⊥
    bad_none (WrongLength i) c = let w = bad.whole in grind arith
    bad_none WrongKind c = elim bad.bad [ inl b ↦ c.1 b.0 | inr b ↦ c.2 b.0 ]
    bad_none WrongProcess c =
        let l = law.steps.some_process in
        elim bad.bad [
          | inl b ↦ (let x = b.1 in grind arith)
          | inr b ↦ (let x = b.0 in let y = b.1.process_below in grind arith)
        ]
    bad_none (WrongStep i) c = let g = bad.steps i c.0 in let a = c.2 in let b = c.3 in grind arith
    bad_none (WrongLoopCount i) c = elim bad.bad [
      | inl b ↦ (let x = b.0 in let y = b.2 in grind arith)
      | inr b ↦ (let x = b.0 in let y = some_loop b.1.some_step in grind arith)
    ]
      where
        some_loop : 1 ≤ length (cycle bs) → 0 < loop_length bs
        some_loop h = let y = bad.whole in let z : length (cycle bs) ≡ min (loop_length bs) (length bs - (10 + stem_length bs)) = simp (length-map, length-take, length-drop) in grind arith
    bad_none (StepDisabled i k) c = elim bad.bad [
      | inl b ↦ no_stuck T steps T.start b.3.last i c.0 k (no_loop b.3.last b.3.stem_walk b.2) c.2 c.1 c.3 c.4
      | inr b ↦ no_stuck T steps T.start b.1.head i c.0 k (walk_append T (stem bs) (cycle bs) T.start b.1.head b.1.head b.1.stem_walk b.1.closed) c.2 c.1 c.3 c.4
    ]
      where
        no_loop : (s : ℕ) → Walk T T.start (stem bs) s → loop_length bs ≡ 0 → Walk T T.start steps s
        no_loop s w e =
            let P : ℕ → Type 0 = λ n. Walk T s (map step_of (take n (drop (10 + stem_length bs) bs))) s in
            walk_append T (stem bs) (cycle bs) T.start s s w (subst P (sym e) refl)
    bad_none (NoClash s) c = elim bad.bad [
      | inl b ↦ (let P : ℕ → Type 0 = λ n. Clashes T n in c.2 (subst P (walk_one T (stem bs) T.start b.3.last s b.3.stem_walk c.1) b.3.clashes))
      | inr b ↦ (let x = b.0 in let y = c.0 in omega arith)
    ]
    bad_none (LoopOpen t) c = elim bad.bad [
      | inl b ↦ (let x = b.0 in let y = c.0 in omega arith)
      | inr b ↦ (let r = b.1 in let h = c.1 in
          let q = walk_one T (stem bs) T.start h.0 r.head h.1 r.stem_walk in
          let P : ℕ → Type 0 = λ n. Walk T n (cycle bs) t in
          h.3 (q ∙ walk_one T (cycle bs) r.head r.head t r.closed (subst P q h.2)))
    ]
    bad_none (NotWaiting p u) c = elim bad.bad [
      | inl b ↦ (let x = b.0 in let y = c.0 in omega arith)
      | inr b ↦ (let r = b.1 in let h = c.2 in
          let q = walk_one T (stem bs) T.start h.0 r.head h.1 r.stem_walk in
          let P : ℕ → Type 0 = λ n. LoopState T n (cycle bs) u in
          let Q : ℕ → Type 0 = λ n. ¬ Waits T n u in
          subst Q c.1 h.3 (r.waiting u (subst P q h.2)))
    ]
    bad_none (ClassNeglected j) c = elim bad.bad [
      | inl b ↦ (let x = b.0 in let y = c.0 in omega arith)
      | inr b ↦ (let r = b.1 in let h = c.2 in
          let q = walk_one T (stem bs) T.start h.0 r.head h.1 r.stem_walk in
          let P : ℕ → Type 0 = λ n. (u : ℕ) → LoopState T n (cycle bs) u → ¬ ClassDisabled S u j in
          elim (r.just_loop j c.1) [ inl y ↦ subst P q h.2 y.0 y.1 y.2 | inr y ↦ h.3 y.0 y.1 y.2 ])
    ]

  -- a bad run is accepted
  pub fields_accepted : BadFields S bs → (r : Result (Unit {0}) RunRefusal) → Answered r → r ≡ Ok tt
  fields_accepted bad (Ok x) a = refl
  fields_accepted bad (Err e) a = absurd (bad_none bad e a.holds)
