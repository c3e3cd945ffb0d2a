-- What the walks over step bytes say of walks, loop states and classes.
use Rattle.std.proofs.Common.{◌≡◌, ℕ, zero, suc, ◌+◌, ◌<◌, ◌≤◌, min, Bool, true, false, cond, not, ◌&&◌, eqb, ◌⊎◌, List, [], ◌∷◌, map, length, get_or, take, Some, None, Ok, Err, Option, Result, sym, refl, ap, ◌∙◌, subst, inl, inr, arith}
use Rattle.std.specs.List.{ContainsAt as Has}
use Rattle.std.specs.Bool.{Decides}
use Rattle.std.proofs.lemmas.Bool.Decides.{nat_tests, not_from_Decides}
use Rattle.std.proofs.lemmas.Bool.{cond_both}
use Rattle.system.specs.declared.Region.{Region}
use Rattle.system.specs.declared.Region.TheVariants.{Idle, Try, Crit, Exit}
use Rattle.system.specs.Transitions.{Transitions, Waits}
use Rattle.system.specs.Runs.{Step, command, rest, Leads, Walk}
use Rattle.system.specs.Justice.{FairSystem, Lawful, ClassDisabled, OfClass}
use Rattle.system.specs.Tests.{is_class, class_enabled_lem}
use Rattle.system.proofs.Decided.{is_class_decides, class_enabled_decides}
use Rattle.lasso.specs.BadRuns.{LoopState, TreatedJustly}
use Rattle.lasso.proofs.Lasso.{leads_one}
use Rattle.run_refusal.specs.declared.RunRefusal.{RunRefusal}
use Rattle.run_refusal.specs.declared.RunRefusal.TheVariants.{StepDisabled}
use Rattle.run_rules.specs.Layout.{step_of}
use Rattle.run_rules.specs.Judging.{or_else, after, walked, is_try, lower, least_idle, owed, neglected, least}

some_is : {a b : ℕ} → ◌≡◌ {A = Option ℕ} (Some a) (Some b) → a ≡ b
some_is e = cc

-- A process waits where its region is try.
pub try_decides : (r : Region) → Decides (is_try r) (r ≡ Try)
try_decides Idle = ((λ e. cc), (λ e. cc))
try_decides Try = ((λ e. refl), (λ e. refl))
try_decides Crit = ((λ e. cc), (λ e. cc))
try_decides Exit = ((λ e. cc), (λ e. cc))

module _ (T : Transitions) where
  -- the step byte b leads where `after` says
  pub after_leads : (s b t : ℕ) → after T s b ≡ Some t → Leads T s (step_of b) t
  after_leads s b t = by_test (eqb b 255)
    where
      by_test : (x : Bool) → cond x (Some s) (T.next s b) ≡ Some t → Leads T s (cond x rest (command b)) t
      by_test true e = some_is e
      by_test false e = e

  pub leads_after : (s b t : ℕ) → Leads T s (step_of b) t → after T s b ≡ Some t
  leads_after s b t = by_test (eqb b 255)
    where
      by_test : (x : Bool) → Leads T s (cond x rest (command b)) t → cond x (Some s) (T.next s b) ≡ Some t
      by_test true e = ap Some e
      by_test false e = e

  pub after_none : (s b : ℕ) → after T s b ≡ None → (step_of b ≡ command b) × (T.next s b ≡ None)
  after_none s b = by_test (eqb b 255)
    where
      by_test : (x : Bool) → cond x (Some s) (T.next s b) ≡ None → (cond x rest (command b) ≡ command b) × (T.next s b ≡ None)
      by_test true e = cc
      by_test false e = (refl, e)

  pub record Stuck (s n : ℕ) (xs : List ℕ) (e : RunRefusal) : Type 0 where
    pub place : ℕ
    pub state : ℕ
    pub is : e ≡ StepDisabled (n + place) (get_or xs place 0)
    pub within : place < length xs
    pub walk : Walk T s (take place (map step_of xs)) state
    pub step : get_or (map step_of xs) place rest ≡ command (get_or xs place 0)
    pub none : T.next state (get_or xs place 0) ≡ None

  abbrev pub WalkTold : ℕ → ℕ → List ℕ → Result ℕ RunRefusal → Type 0
  WalkTold s n xs (Ok t) = Walk T s (map step_of xs) t
  WalkTold s n xs (Err e) = Stuck s n xs e

  pub walk_told : (s n : ℕ) (xs : List ℕ) → WalkTold s n xs (walked T s n xs)
  walk_told s n [] = refl
  walk_told s n (b ∷ xs) = by_after (λ t. walk_told t (n + 1) xs) (after T s b) refl
    where
      later : (t : ℕ) → after T s b ≡ Some t → (r : Result ℕ RunRefusal) → WalkTold t (n + 1) xs r → WalkTold s n (b ∷ xs) r
      later t e (Ok u) w = (t, after_leads s b t e, w)
      later t e (Err d) w =
          let q : (n + 1) + w.place ≡ n + suc w.place = omega arith in
          let h = w.within in
          record {
            place = suc w.place;
            state = w.state;
            is = w.is ∙ ap (λ m. StepDisabled m (get_or xs w.place 0)) q;
            within = omega arith;
            walk = (t, after_leads s b t e, w.walk);
            step = w.step;
            none = w.none;
          }

      by_after : ((t : ℕ) → WalkTold t (n + 1) xs (walked T t (n + 1) xs)) → (o : Option ℕ) → after T s b ≡ o → WalkTold s n (b ∷ xs) (or_else o (λ t. walked T t (n + 1) xs) (Err (StepDisabled n b)))
      by_after f (Some t) e = later t e (walked T t (n + 1) xs) (f t)
      by_after f None e =
          let a = after_none s b e in
          let q : n ≡ n + 0 = omega arith in
          record { place = 0; state = s; is = ap (λ m. StepDisabled m b) q; within = omega arith; walk = refl; step = a.0; none = a.1 }

  -- a walk goes through a state at each of its places, and on by its step there
  pub walk_through : (w : List Step) (s t i : ℕ) → Walk T s w t → i < length w → (u v : ℕ) × Walk T s (take i w) u × Leads T u (get_or w i rest) v
  walk_through [] s t i h l = absurd (omega arith)
  walk_through (a ∷ w) s t zero h l = (s, h.0, refl, h.1)
  walk_through (a ∷ w) s t (suc i) h l =
      let g = walk_through w h.0 t i h.2 (omega arith) in
      (g.0, g.1, (h.0, h.1, g.2), g.3)

  -- loop states
  pub loop_cases : (s : ℕ) (a : Step) (w : List Step) (u : ℕ) → LoopState T s (a ∷ w) u → (s ≡ u) ⊎ ((m : ℕ) × Leads T s a m × LoopState T m w u)
  loop_cases s a w u (zero, l, h) = inl h
  loop_cases s a w u (suc i, l, h) = inr (h.0, h.1, (i, omega arith, h.2))

  pub loop_here : (s : ℕ) (a : Step) (w : List Step) → LoopState T s (a ∷ w) s
  loop_here s a w = (0, omega arith, refl)

  pub loop_there : (s : ℕ) (a : Step) (w : List Step) (m u : ℕ) → Leads T s a m → LoopState T m w u → LoopState T s (a ∷ w) u
  loop_there s a w m u l h = let b = h.1 in (suc h.0, omega arith, (m, l, h.2))

  waits_is : (p u : ℕ) → is_try (T.region u p) ≡ true → Waits T p u
  waits_is p u = (try_decides (T.region u p)).0

  waits_not : (p u : ℕ) → is_try (T.region u p) ≡ false → ¬ Waits T p u
  waits_not p u = not_from_Decides (is_try (T.region u p)) (try_decides (T.region u p))

  -- what least-idle finds beside what it held
  abbrev pub IdleTold : ℕ → Option ℕ → ℕ → List ℕ → Option ℕ → Type 0
  IdleTold p held s xs None = (held ≡ None) × ((u : ℕ) → LoopState T s (map step_of xs) u → Waits T p u)
  IdleTold p held s xs (Some u) =
      ((held ≡ Some u) ⊎ (LoopState T s (map step_of xs) u × ¬ Waits T p u))
      × ((v : ℕ) → held ≡ Some v → u ≤ v)
      × ((v : ℕ) → LoopState T s (map step_of xs) v → ¬ Waits T p v → u ≤ v)

  held_told : (p : ℕ) (held : Option ℕ) (s : ℕ) → IdleTold p held s [] held
  held_told p None s = (refl, λ u l. (let h = l.1 in absurd (omega arith)))
  held_told p (Some u) s = (inl refl, (λ v e. let q = some_is e in omega arith), λ v l _. (let h = l.1 in absurd (omega arith)))

  pub loop_split : (s : ℕ) (a : Step) (w : List Step) (m u : ℕ) → Leads T s a m → LoopState T s (a ∷ w) u → (s ≡ u) ⊎ LoopState T m w u
  loop_split s a w m u l h = elim (loop_cases s a w u h) [
    | inl e ↦ inl e
    | inr g ↦ inr (let P : ℕ → Type 0 = λ n. LoopState T n w u in subst P (leads_one T s g.0 m a g.1 l) g.2)
  ]

  module _ (p s b m : ℕ) (xs : List ℕ) (lead : Leads T s (step_of b) m) where
    split : (u : ℕ) → LoopState T s (map step_of (b ∷ xs)) u → (s ≡ u) ⊎ LoopState T m (map step_of xs) u
    split u h = loop_split s (step_of b) (map step_of xs) m u lead h

    there : (u : ℕ) → LoopState T m (map step_of xs) u → LoopState T s (map step_of (b ∷ xs)) u
    there u h = loop_there s (step_of b) (map step_of xs) m u lead h

    here : (u : ℕ) → s ≡ u → LoopState T s (map step_of (b ∷ xs)) u
    here u e = let P : ℕ → Type 0 = λ n. LoopState T s (map step_of (b ∷ xs)) n in subst P e (loop_here s (step_of b) (map step_of xs))

    waits_at : (u : ℕ) → s ≡ u → Waits T p s → Waits T p u
    waits_at u e h = let P : ℕ → Type 0 = λ n. Waits T p n in subst P e h

    same : {X : Type 0} {u : ℕ} → LoopState T m (map step_of xs) u × X → LoopState T s (map step_of (b ∷ xs)) u × X
    same {X} {u} h = (there u h.0, h.1)

    kept : (held o : Option ℕ) → Waits T p s → IdleTold p held m xs o → IdleTold p held s (b ∷ xs) o
    kept held None w c = (c.0, λ u l. elim (split u l) [ inl e ↦ waits_at u e w | inr g ↦ c.1 u g ])
    kept held (Some u) w c = (
      elim c.0 [ inl e ↦ inl e | inr g ↦ inr (same g) ],
      c.1,
      λ v l n. elim (split v l) [ inl e ↦ absurd (n (waits_at v e w)) | inr g ↦ c.2 v g n ],
    )

    idle_here : (u : ℕ) → s ≡ u → ¬ Waits T p s → LoopState T s (map step_of (b ∷ xs)) u × ¬ Waits T p u
    idle_here u e n = (here u e, λ w. n (let P : ℕ → Type 0 = λ k. Waits T p k in subst P (sym e) w))

    lowest : (held : Option ℕ) (u : ℕ) → ¬ Waits T p s → IdleTold p (lower held s) m xs (Some u) → IdleTold p held s (b ∷ xs) (Some u)
    lowest None u n c = (
      elim c.0 [ inl e ↦ inr (idle_here u (some_is e) n) | inr g ↦ inr (same g) ],
      (λ v e. cc),
      λ v l k. elim (split v l) [ inl e ↦ (let q = c.1 s refl in omega arith) | inr g ↦ c.2 v g k ],
    )
    lowest (Some h) u n c = (
      elim c.0 [ inl e ↦ lower_of (some_is e) (which h s) | inr g ↦ inr (same g) ],
      (λ v e. let q = c.1 (min h s) refl in let r = some_is e in let t = which h s in grind arith),
      λ v l k. elim (split v l) [ inl e ↦ (let q = c.1 (min h s) refl in let t = which h s in grind arith) | inr g ↦ c.2 v g k ],
    )
      where
        which : (a b : ℕ) → ((min a b ≡ a) × (a ≤ b)) ⊎ ((min a b ≡ b) × (b ≤ a))
        which a b = grind arith

        lower_of : min h s ≡ u → ((min h s ≡ h) × (h ≤ s)) ⊎ ((min h s ≡ s) × (s ≤ h)) → (◌≡◌ {A = Option ℕ} (Some h) (Some u)) ⊎ (LoopState T s (map step_of (b ∷ xs)) u × ¬ Waits T p u)
        lower_of e (inl q) = inl (ap Some (sym q.0 ∙ e))
        lower_of e (inr q) = inr (idle_here u (sym q.0 ∙ e) n)

    lowered : (held o : Option ℕ) → ¬ Waits T p s → IdleTold p (lower held s) m xs o → IdleTold p held s (b ∷ xs) o
    lowered None None n c = let a = c.0 in cc
    lowered (Some h) None n c = let a = c.0 in cc
    lowered held (Some u) n c = lowest held u n c

    back : (held o : Option ℕ) (x : Bool) → is_try (T.region s p) ≡ x → IdleTold p (cond x held (lower held s)) m xs o → IdleTold p held s (b ∷ xs) o
    back held o true e c = kept held o (waits_is p s e) c
    back held o false e c = lowered held o (waits_not p s e) c

  pub idle_told : (p : ℕ) (held : Option ℕ) (s t : ℕ) (xs : List ℕ) → Walk T s (map step_of xs) t → IdleTold p held s xs (least_idle T p held s xs)
  idle_told p held s t [] w = held_told p held s
  idle_told p held s t (b ∷ xs) w =
      let x = is_try (T.region s p) in
      let h : Option ℕ = cond x held (lower held s) in
      let P : Option ℕ → Type 0 = λ o. IdleTold p held s (b ∷ xs) (or_else o (λ n. least_idle T p h n xs) h) in
      subst P (sym (leads_after s b w.0 w.1))
      (back p s b w.0 xs w.1 held (least_idle T p h w.0 xs) x refl (idle_told p h w.0 t xs w.2))

module _ (S : FairSystem) (law : Lawful S) where
  -- what the test of a class over the steps says
  abbrev pub NeglectedTold : ℕ → ℕ → List ℕ → Bool → Type 0
  NeglectedTold j s xs true =
      ((u : ℕ) → LoopState S.steps s (map step_of xs) u → ¬ ClassDisabled S u j)
      × ((a : Step) → Has (map step_of xs) a → ¬ OfClass S a j)
  NeglectedTold j s xs false = TreatedJustly S s (map step_of xs) j

  -- rest has no class, as no command has the number 255
  of_class : (b j : ℕ) → is_class (S.class b) j ≡ true → OfClass S (step_of b) j
  of_class b j e = by_test (eqb b 255) refl
    where
      is : S.class b ≡ Some j
      is = (is_class_decides (S.class b) j).0 e

      by_test : (x : Bool) → eqb b 255 ≡ x → OfClass S (cond x rest (command b)) j
      by_test true q =
          let l = (law.class_below b j is).0 in
          let m = law.steps.few_commands in
          grind (arith, nat_tests)
      by_test false q = is

  of_class_not : (b j : ℕ) → is_class (S.class b) j ≡ false → ¬ OfClass S (step_of b) j
  of_class_not b j e = by_test (eqb b 255)
    where
      by_test : (x : Bool) → ¬ OfClass S (cond x rest (command b)) j
      by_test true h = h
      by_test false h = not_from_Decides (is_class (S.class b) j) (is_class_decides (S.class b) j) e h

  has_head : (a : Step) (w : List Step) → Has (a ∷ w) a
  has_head a w = (0, omega arith, λ d. refl)

  has_tail : (a : Step) (w : List Step) (x : Step) → Has w x → Has (a ∷ w) x
  has_tail a w x h = let l = h.1 in (suc h.0, omega arith, h.2)

  has_cases : (a : Step) (w : List Step) (x : Step) → Has (a ∷ w) x → (a ≡ x) ⊎ Has w x
  has_cases a w x (zero, l, h) = inl (h rest)
  has_cases a w x (suc i, l, h) = inr (i, omega arith, h)

  module _ (j s b m : ℕ) (xs : List ℕ) (lead : Leads S.steps s (step_of b) m) where
    on : (x : Bool) → NeglectedTold j m xs x → class_enabled_lem S s j ≡ true → is_class (S.class b) j ≡ false → NeglectedTold j s (b ∷ xs) x
    on true w e f = (
      (λ u l. elim (loop_split S.steps s (step_of b) (map step_of xs) m u lead l) [
        | inl q ↦ (let P : ℕ → Type 0 = λ n. ¬ ClassDisabled S n j in subst P q (λ n. n ((class_enabled_decides S law s j).0 e)))
        | inr g ↦ w.0 u g
      ]),
      λ a h. elim (has_cases (step_of b) (map step_of xs) a h) [
        | inl q ↦ (let P : Step → Type 0 = λ n. ¬ OfClass S n j in subst P q (of_class_not b j f))
        | inr g ↦ w.1 a g
      ],
    )
    on false (inl w) e f = inl (w.0, loop_there S.steps s (step_of b) (map step_of xs) m w.0 lead w.1, w.2)
    on false (inr w) e f = inr (w.0, has_tail (step_of b) (map step_of xs) w.0 w.1, w.2)

    turn : (x y z : Bool) → class_enabled_lem S s j ≡ x → is_class (S.class b) j ≡ y → NeglectedTold j m xs z → NeglectedTold j s (b ∷ xs) ((x && not y) && z)
    turn false y z e f w = inl (s, loop_here S.steps s (step_of b) (map step_of xs), not_from_Decides (class_enabled_lem S s j) (class_enabled_decides S law s j) e)
    turn true true z e f w = inr (step_of b, has_head (step_of b) (map step_of xs), of_class b j f)
    turn true false z e f w = on z w e f

  pub neglected_told : (j s t : ℕ) (xs : List ℕ) → Walk S.steps s (map step_of xs) t → NeglectedTold j s xs (neglected S j s xs)
  neglected_told j s t [] w = ((λ u l. (let h = l.1 in absurd (omega arith))), (λ a l. (let h = l.1 in absurd (omega arith))))
  neglected_told j s t (b ∷ xs) w =
      let P : Option ℕ → Type 0 = λ o. NeglectedTold j s (b ∷ xs) (owed S j s b && or_else o (λ n. neglected S j n xs) true) in
      subst P (sym (leads_after S.steps s b w.0 w.1))
      (turn j s b w.0 xs w.1 (class_enabled_lem S s j) (is_class (S.class b) j) (neglected S j w.0 xs) refl refl (neglected_told j w.0 t xs w.2))

-- what `least` finds
abbrev pub LeastTold : (ℕ → Bool) → ℕ → ℕ → Option ℕ → Type 0
LeastTold f i n None = (k : ℕ) → i ≤ k → k < i + n → f k ≡ false
LeastTold f i n (Some j) = (i ≤ j) × (j < i + n) × (f j ≡ true) × ((k : ℕ) → i ≤ k → k < j → f k ≡ false)

pub least_told : (f : ℕ → Bool) (i n : ℕ) → LeastTold f i n (least f i n)
least_told f i zero = λ k l h. absurd (omega arith)
least_told f i (suc n) = cond_both (f i) (Some i) (least f (i + 1) n) (LeastTold f i (suc n))
    (λ e. (omega arith, omega arith, e, λ k l h. absurd (omega arith)))
    (λ e. later e (least f (i + 1) n) (least_told f (i + 1) n))
  where
    each : f i ≡ false → (m : ℕ) → ((k : ℕ) → i + 1 ≤ k → k < m → f k ≡ false) → (k : ℕ) → (i ≡ k) ⊎ (i < k) → k < m → f k ≡ false
    each e m g k (inl q) h = ap f (sym q) ∙ e
    each e m g k (inr q) h = g k (omega arith) h

    side : (k : ℕ) → i ≤ k → (i ≡ k) ⊎ (i < k)
    side k h = grind arith

    later : f i ≡ false → (o : Option ℕ) → LeastTold f (i + 1) n o → LeastTold f i (suc n) o
    later e None w = λ k l h. each e (i + suc n) (λ k a b. w k a (omega arith)) k (side k l) h
    later e (Some j) w = let a = w.0 in let b = w.1 in (omega arith, omega arith, w.2, λ k l h. each e j w.3 k (side k l) h)
