-- The endless run of a stem and a loop: the stem, then the loop again and again.
use Rattle.std.proofs.Common.{◌≡◌, ℕ, zero, suc, ◌+◌, ◌*◌, ◌<◌, ◌≤◌, ◌⊎◌, List, [], ◌∷◌, ◌++◌, length, get_or, take, drop, sym, refl, ap, ◌∙◌, subst, ap₂, inl, inr, append_assoc, append-nil, suc-mul, arith, length-append, take-append-drop}
use native.Mathlib.Decide.{le_ind}
use Rattle.std.specs.List.{ContainsAt as Has}
use Rattle.std.proofs.lemmas.List.{take_at}
use Rattle.system.specs.Transitions.{Transitions, Waits}
use Rattle.system.specs.Runs.{Step, command, rest, Leads, Walk, Run}
use Rattle.system.specs.Justice.{ClassDisabled, OfClass, Just, InfinitelyOften}
use Rattle.lasso.specs.BadRuns.{LoopState, TreatedJustly, clash, lockout}
use Rattle.lasso.specs.Claims.{StemThenLoop, ClashRunReachesClash, LockoutLeavesTrying, BadRunBreaksLock}

module _ (T : Transitions) where
  pub leads_one : (s t t' : ℕ) (a : Step) → Leads T s a t → Leads T s a t' → t ≡ t'
  leads_one s t t' (command k) l l' = cc
  leads_one s t t' rest l l' = sym l ∙ l'

  -- a walk leads to one state
  pub walk_one : (w : List Step) (s t t' : ℕ) → Walk T s w t → Walk T s w t' → t ≡ t'
  walk_one [] s t t' h h' = sym h ∙ h'
  walk_one (a ∷ w) s t t' (u, l, h) (u', l', h') = walk_one w u t t' h (rw (leads_one s u' u a l' l) at h')

  pub walk_more : (v : List Step) (s u t : ℕ) (a : Step) → Walk T s v u → Leads T u a t → Walk T s (v ++ (a ∷ [])) t
  walk_more [] s u t a e l = (t, rw e l, refl)
  walk_more (b ∷ v) s u t a (u', l', h) l = (u', l', walk_more v u' u t a h l)

  module _ (head : ℕ) (a₀ : Step) (w₀ : List Step) (closed : Walk T head (a₀ ∷ w₀) head) where
    -- the first step of w, and the others; where w has none, those of the loop
    abbrev lead : List Step → Step
    lead [] = a₀
    lead (b ∷ w) = b

    abbrev others : List Step → List Step
    others [] = w₀
    others (b ∷ w) = w

    record Point : Type 0 where
      state : ℕ
      first : Step
      later : List Step
      walk : Walk T state (first ∷ later) head

    refilled : (u : ℕ) (w : List Step) → Walk T u w head → Walk T u (lead w ∷ others w) head
    refilled u [] e = subst (λ v. Walk T v (a₀ ∷ w₀) head) (sym e) closed
    refilled u (b ∷ w) h = h

    abbrev refill : (u : ℕ) (w : List Step) → Walk T u w head → Point
    refill u w h = record { state = u; first = lead w; later = others w; walk = refilled u w h }

    abbrev advance : Point → Point
    advance x = refill x.walk.0 x.later x.walk.2

    module _ (stem : List Step) (stem_walk : Walk T T.start stem head) where
      abbrev point : ℕ → Point
      point zero = refill T.start stem stem_walk
      point (suc i) = advance (point i)

      run : Run T
      run = record {
        state = λ i. (point i).state;
        step = λ i. (point i).first;
        starts = refl;
        goes = λ i. (point i).walk.1;
      }

      -- at the moment i the run is at u with the steps of w before it
      abbrev At : ℕ → ℕ → List Step → Type 0
      At i u w = ((point i).state ≡ u) × ((point i).first ≡ lead w) × ((point i).later ≡ others w)

      follow : (v w : List Step) (i u : ℕ) → At i u (v ++ w) → (m : ℕ) × (i ≤ m) × (u' : ℕ) × Walk T u v u' × At m u' w
      follow [] w i u at = (i, omega arith, u, refl, at)
      follow (a ∷ v) w i u (e, f, g) =
          let x = point i in
          let (m, late, u', h, at) = follow v w (suc i) x.walk.0 (refl, ap lead g, ap others g) in
          let l : Leads T u a x.walk.0 = rw (e, f) at x.walk.1 in
          (m, omega arith, u', (x.walk.0, l, h), at)

      -- from each moment on the run comes to the loop's head, with the whole loop before it
      comes_round : (n : ℕ) → (m : ℕ) × (n ≤ m) × At m head (a₀ ∷ w₀)
      comes_round n =
          let x = point n in
          let w : List Step = x.first ∷ x.later in
          let here : At n x.state (w ++ []) = rw (append-nil w) (refl, refl, refl) in
          let (m, late, u, h, at) = follow w [] n x.state here in
          (m, late, (at.0 ∙ walk_one w x.state u head h x.walk, at.1, at.2))

      -- and from there to each place of the loop
      comes_to : (n k : ℕ) → (m : ℕ) × (n ≤ m) × (u : ℕ) × Walk T head (take k (a₀ ∷ w₀)) u × At m u (drop k (a₀ ∷ w₀))
      comes_to n k =
          let (m, late, at) = comes_round n in
          let at' : At m head (take k (a₀ ∷ w₀) ++ drop k (a₀ ∷ w₀)) = rw (take-append-drop k (a₀ ∷ w₀)) at in
          let (m', late', u, h, there) = follow (take k (a₀ ∷ w₀)) (drop k (a₀ ∷ w₀)) m head at' in
          (m', omega arith, u, h, there)

      lead_drop : (l : List Step) (k : ℕ) → lead (drop k l) ≡ get_or l k a₀
      lead_drop [] zero = refl
      lead_drop [] (suc k) = refl
      lead_drop (a ∷ l) zero = refl
      lead_drop (a ∷ l) (suc k) = lead_drop l k

      often_at : (P : ℕ → Type 0) (u : ℕ) → LoopState T head (a₀ ∷ w₀) u → P u → InfinitelyOften (λ i. P (run.state i))
      unfolding run
      often_at P u (k, _, h) holds n =
          let (m, late, u', h', at) = comes_to n k in
          (m, late, subst P (walk_one (take k (a₀ ∷ w₀)) head u u' h h' ∙ sym at.0) holds)

      often_taken : (P : Step → Type 0) (a : Step) → Has (a₀ ∷ w₀) a → P a → InfinitelyOften (λ i. P (run.step i))
      unfolding run
      often_taken P a (k, _, read) holds n =
          let (m, late, u', h', at) = comes_to n k in
          (m, late, subst P (sym (at.1 ∙ lead_drop (a₀ ∷ w₀) k ∙ read a₀)) holds)

      -- the steps before x are the end of the loop
      abbrev InLoop : Point → Type 0
      InLoop x = (v : List Step) × (v ++ (x.first ∷ x.later) ≡ a₀ ∷ w₀) × Walk T head v x.state

      stays : (s u : ℕ) (a : Step) (w : List Step) (h : Walk T u w head) → Leads T s a u
          → (v : List Step) → v ++ (a ∷ w) ≡ a₀ ∷ w₀ → Walk T head v s → InLoop (refill u w h)
      stays s u a [] h l v e to = ([], refl, sym h)
      stays s u a (b ∷ w) h l v e to = (v ++ (a ∷ []), append_assoc v (a ∷ []) (b ∷ w) ∙ e, walk_more v head s u a to l)

      in_loop : (n : ℕ) → At n head (a₀ ∷ w₀) → (i : ℕ) → n ≤ i → InLoop (point i)
      in_loop n at = le_ind (λ i. InLoop (point i)) ([], ap₂ (λ a l. a ∷ l) at.1 at.2, sym at.0) further
        where
          further : (i : ℕ) → n ≤ i → InLoop (point i) → InLoop (point (suc i))
          further i _ (v, e, to) =
              let x = point i in
              stays x.state x.walk.0 x.first x.later x.walk.2 x.walk.1 v e to

      loop_state : (x : Point) → InLoop x → LoopState T head (a₀ ∷ w₀) x.state
      loop_state x (v, e, to) =
          let w : List Step = x.first ∷ x.later in
          let long : length v + length w ≡ length (a₀ ∷ w₀) = sym (length-append v w) ∙ ap length e in
          let front : take (length v) (a₀ ∷ w₀) ≡ v = ap (take (length v)) (sym e) ∙ take_at v w (length v) refl in
          (length v, omega arith, rw front to)

      -- the moment when the stem is done
      arrives : (n : ℕ) × At n head (a₀ ∷ w₀)
      arrives =
          let here : At 0 T.start (stem ++ []) = rw (append-nil stem) (refl, refl, refl) in
          let (m, _, u, h, at) = follow stem [] 0 T.start here in
          (m, (at.0 ∙ walk_one stem T.start u head h stem_walk, at.1, at.2))

      visits_head : (i : ℕ) × (run.state i ≡ head)
      unfolding run
      visits_head = (arrives.0, arrives.1.0)

      keeps : (P : ℕ → Type 0) → ((u : ℕ) → LoopState T head (a₀ ∷ w₀) u → P u) → (n : ℕ) × ((i : ℕ) → n ≤ i → P (run.state i))
      unfolding run
      keeps P holds = (arrives.0, λ i late. holds (point i).state (loop_state (point i) (in_loop arrives.0 arrives.1 i late)))

      -- the steps of w come next at the moment i
      abbrev Next : ℕ → List Step → Type 0
      Next i w = ((point i).first ≡ lead w) × ((point i).later ≡ others w)

      next_steps : (v w : List Step) (i : ℕ) → Next i (v ++ w) →
          ((k : ℕ) → k < length v → (point (i + k)).first ≡ get_or v k rest) × Next (i + length v) w
      next_steps [] w i at =
          ((λ k h. absurd (omega arith)), let P : ℕ → Type 0 = λ m. Next m w in subst P (let q : i ≡ i + 0 = omega arith in q) at)
      next_steps (a ∷ v) w i (f, g) =
          let (steps, then) = next_steps v w (suc i) (ap lead g, ap others g) in
          let P : ℕ → Type 0 = λ m. Next m w in
          (each steps, subst P (let q : suc i + length v ≡ i + suc (length v) = omega arith in q) then)
        where
          each : ((k : ℕ) → k < length v → (point (suc i + k)).first ≡ get_or v k rest) → (k : ℕ) → k < suc (length v) → (point (i + k)).first ≡ get_or (a ∷ v) k rest
          each later zero h = ap (λ m. (point m).first) (let q : i + 0 ≡ i = omega arith in q) ∙ f
          each later (suc k) h =
              ap (λ m. (point m).first) (let q : i + suc k ≡ suc i + k = omega arith in q) ∙ later k (omega arith)

      stem_next : ((k : ℕ) → k < length stem → (point (0 + k)).first ≡ get_or stem k rest) × Next (0 + length stem) []
      stem_next = next_steps stem [] 0 (rw (append-nil stem) (refl, refl))

      -- each round begins with the whole loop before it
      round : (n : ℕ) → Next (length stem + n * length (a₀ ∷ w₀)) (a₀ ∷ w₀)
      round zero = let P : ℕ → Type 0 = λ m. Next m (a₀ ∷ w₀) in subst P (let q : 0 + length stem ≡ length stem + 0 * length (a₀ ∷ w₀) = omega arith in q) stem_next.1
      round (suc n) =
          let all : List Step = a₀ ∷ w₀ in
          let at = length stem + n * length all in
          let Q : List Step → Type 0 = λ l. Next at l in
          let here : Next at (all ++ []) = subst Q (sym (append-nil all)) (round n) in
          let P : ℕ → Type 0 = λ m. Next m all in
          subst P (let q : at + length all ≡ length stem + suc n * length all = omega (arith, suc-mul n (length all)) in q) (next_steps all [] at here).1

      stem_then_loop : StemThenLoop stem (a₀ ∷ w₀) run
      unfolding run
      stem_then_loop = (
        (λ i h. ap (λ m. (point m).first) (let q : i ≡ 0 + i = omega arith in q) ∙ stem_next.0 i h),
        λ n i h. let all : List Step = a₀ ∷ w₀ in
            let at = length stem + n * length all in
            (next_steps all [] at (let P : List Step → Type 0 = λ l. Next at l in subst P (sym (append-nil all)) (round n))).0 i h,
      )

pub clash_run_reaches_clash_lem : ClashRunReachesClash
clash_run_reaches_clash_lem T stem c =
    let still : Walk T c.last (rest ∷ []) c.last = (c.last, refl, refl) in
    let (i, e) = visits_head T c.last rest [] still stem c.stem_walk in
    (run T c.last rest [] still stem c.stem_walk, (i, rw e c.clashes))

pub lockout_leaves_trying_lem : LockoutLeavesTrying
lockout_leaves_trying_lem S p stem [] c = let none : 1 ≤ 0 = c.some_step in absurd (omega arith)
lockout_leaves_trying_lem S p stem (a ∷ w) c = (
  run S.steps c.head a w c.closed stem c.stem_walk,
  stem_then_loop S.steps c.head a w c.closed stem c.stem_walk,
  just,
  keeps S.steps c.head a w c.closed stem c.stem_walk (Waits S.steps p) c.waiting,
)
  where
    by : (j : ℕ) → TreatedJustly S c.head (a ∷ w) j
        → InfinitelyOften (λ i. ClassDisabled S ((run S.steps c.head a w c.closed stem c.stem_walk).state i) j)
        ⊎ InfinitelyOften (λ i. OfClass S ((run S.steps c.head a w c.closed stem c.stem_walk).step i) j)
    by j (inl (u, loops, disabled)) =
        inl (often_at S.steps c.head a w c.closed stem c.stem_walk (λ s. ClassDisabled S s j) u loops disabled)
    by j (inr (b, has, taken)) =
        inr (often_taken S.steps c.head a w c.closed stem c.stem_walk (λ b. OfClass S b j) b has taken)

    just : Just S (run S.steps c.head a w c.closed stem c.stem_walk)
    just j below = by j (c.just_loop j below)

pub bad_run_breaks_lock_lem : BadRunBreaksLock
bad_run_breaks_lock_lem S (clash stem c) correct =
    let (r, reaches) = clash_run_reaches_clash_lem S.steps stem c in
    correct.no_clash r reaches
bad_run_breaks_lock_lem S (lockout p stem loop c) correct =
    let (r, _, just, leaves) = lockout_leaves_trying_lem S p stem loop c in
    correct.no_lockout r just p c.process_below leaves
