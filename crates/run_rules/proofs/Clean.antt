-- The bytes before x have no fault.
use Rattle.std.proofs.Common.{◌≡◌, ℕ, ◌+◌, ◌<◌, ◌≤◌, ◌⊎◌, List, length, get_or, subst, inl, inr, arith}
use Rattle.std.proofs.lemmas.Bool.{cases_lt}
use Rattle.system.specs.Justice.{FairSystem, Lawful}
use Rattle.run_refusal.specs.declared.RunRefusal.{RunRefusal}
use Rattle.run_refusal.specs.declared.RunRefusal.TheVariants.{WrongLength, WrongKind, WrongProcess, WrongStep, WrongLoopCount, StepDisabled, NoClash, LoopOpen, NotWaiting, ClassNeglected}
use Rattle.place.specs.Places.{place}
use Rattle.run_refusal.specs.Refusals.{number, placed}
use Rattle.run_rules.specs.Causes.{Cause}
use Rattle.run_rules.specs.Layout.{stem_length, loop_length, end}
use Rattle.run_rules.proofs.Order.{AheadBy}

pub record Clean (S : FairSystem) (bs : List ℕ) (x : ℕ) : Type 0 where
  pub short : (i : ℕ) → Cause S bs (WrongLength i) → x ≤ i
  pub kind : Cause S bs WrongKind → x ≤ 0
  pub process : Cause S bs WrongProcess → x ≤ 1
  pub step : (i : ℕ) → Cause S bs (WrongStep i) → x ≤ i
  pub loop : (i : ℕ) → Cause S bs (WrongLoopCount i) → x ≤ i

-- no cause at the byte x has a number below n
pub record Lowest (S : FairSystem) (bs : List ℕ) (n x : ℕ) : Type 0 where
  pub short : Cause S bs (WrongLength x) → n ≤ 31
  pub kind : x ≡ 0 → Cause S bs WrongKind → n ≤ 32
  pub process : x ≡ 1 → Cause S bs WrongProcess → n ≤ 33
  pub step : Cause S bs (WrongStep x) → n ≤ 34

abbrev pub GoodStep : FairSystem → List ℕ → ℕ → Type 0
GoodStep S bs i = (get_or bs i 0 ≡ 255) ⊎ (get_or bs i 0 < S.steps.commands)

module _ (S : FairSystem) (bs : List ℕ) where
  pub clean_0 : Clean S bs 0
  clean_0 = record { short = λ i c. omega arith; kind = λ c. omega arith; process = λ c. omega arith; step = λ i c. omega arith; loop = λ i c. omega arith }

  pub clean_1 : 0 < length bs → (get_or bs 0 0 ≡ 1) ⊎ (get_or bs 0 0 ≡ 2) → Clean S bs 1
  clean_1 h k = record { short = λ i c. grind arith; kind = λ c. grind arith; process = λ c. omega arith; step = λ i c. grind arith; loop = λ i c. grind arith }

  pub clean_2 : Lawful S → Clean S bs 1 → 1 < length bs → ((get_or bs 0 0 ≡ 1) × (get_or bs 1 0 ≡ 0)) ⊎ ((get_or bs 0 0 ≡ 2) × (get_or bs 1 0 < S.steps.processes)) → Clean S bs 2
  clean_2 l w h k = record {
    short = λ i c. let a = w.short i c in grind arith;
    kind = λ c. let a = w.kind c in omega arith;
    process = λ c. let a = l.steps.some_process in grind arith;
    step = λ i c. grind arith;
    loop = λ i c. grind arith;
  }

  pub clean_6 : Clean S bs 2 → 6 ≤ length bs → Clean S bs 6
  clean_6 w h = record {
    short = λ i c. let a = w.short i c in grind arith;
    kind = λ c. let a = w.kind c in omega arith;
    process = λ c. let a = w.process c in omega arith;
    step = λ i c. grind arith;
    loop = λ i c. grind arith;
  }

  at_bad : (i : ℕ) → ¬ (get_or bs i 0 ≡ 255) → S.steps.commands ≤ get_or bs i 0 → GoodStep S bs i → ⊥
  at_bad i n m g = grind arith

  -- no step is bad before x, if those from y on are not and none before y is
  step_past : (x y : ℕ) → ((i : ℕ) → Cause S bs (WrongStep i) → y ≤ i) → ((i : ℕ) → y ≤ i → i < x → GoodStep S bs i) →
      (i : ℕ) → Cause S bs (WrongStep i) → x ≤ i
  step_past x y from good i c = side (cases_lt i x)
    where
      side : (i < x) ⊎ (x ≤ i) → x ≤ i
      side (inr h) = h
      side (inl h) = absurd (at_bad i c.2 c.3 (good i (from i c) h))

  -- to within the stem
  pub clean_stem : (x : ℕ) → Clean S bs 6 → 6 ≤ x → x ≤ 6 + stem_length bs → x ≤ length bs → ((i : ℕ) → 6 ≤ i → i < x → GoodStep S bs i) → Clean S bs x
  clean_stem x w low high l good = record {
    short = λ i c. let a = w.short i c in grind arith;
    kind = λ c. let a = w.kind c in omega arith;
    process = λ c. let a = w.process c in omega arith;
    step = step_past x 6 w.step good;
    loop = λ i c. omega arith;
  }

  pub clean_10 : Clean S bs (6 + stem_length bs) → 10 + stem_length bs ≤ length bs
      → ((get_or bs 0 0 ≡ 1) × (loop_length bs ≡ 0)) ⊎ ((get_or bs 0 0 ≡ 2) × (0 < loop_length bs)) → Clean S bs (10 + stem_length bs)
  clean_10 w h k = record {
    short = λ i c. let a = w.short i c in grind arith;
    kind = λ c. let a = w.kind c in omega arith;
    process = λ c. let a = w.process c in omega arith;
    step = λ i c. let a = w.step i c in grind arith;
    loop = λ i c. let a = w.loop i c in grind arith;
  }

  -- to within the loop
  pub clean_loop : (x : ℕ) → Clean S bs (10 + stem_length bs) → 10 + stem_length bs ≤ x → x ≤ end bs → x ≤ length bs
      → ((i : ℕ) → 10 + stem_length bs ≤ i → i < x → GoodStep S bs i) → Clean S bs x
  clean_loop x w low high l good = record {
    short = λ i c. let a = w.short i c in grind arith;
    kind = λ c. let a = w.kind c in omega arith;
    process = λ c. let a = w.process c in omega arith;
    step = step_past x (10 + stem_length bs) w.step good;
    loop = λ i c. let a = w.loop i c in grind arith;
  }

  -- nothing is ahead of the lowest fault at the first byte that has one
  pub first_at : (n x : ℕ) → n ≤ 35 → Clean S bs x → Lowest S bs n x → (d : RunRefusal) → Cause S bs d → ¬ AheadBy (number d) (placed d) n (place 0 x 0)
  first_at n x h w l (WrongLength i) c a =
      let b = w.short i c in
      let P : ℕ → Type 0 = λ j. Cause S bs (WrongLength j) in
      let e : i ≡ x → n ≤ 31 = λ e. l.short (subst P e c) in
      grind arith
  first_at n x h w l WrongKind c a = let b = w.kind c in let e : x ≡ 0 → n ≤ 32 = λ e. l.kind e c in grind arith
  first_at n x h w l WrongProcess c a = let b = w.process c in let e : x ≡ 1 → n ≤ 33 = λ e. l.process e c in grind arith
  first_at n x h w l (WrongStep i) c a =
      let b = w.step i c in
      let P : ℕ → Type 0 = λ j. Cause S bs (WrongStep j) in
      let e : i ≡ x → n ≤ 34 = λ e. l.step (subst P e c) in
      grind arith
  first_at n x h w l (WrongLoopCount i) c a = let b = w.loop i c in grind arith
  first_at n x h w l (StepDisabled i k) c a = grind arith
  first_at n x h w l (NoClash s) c a = grind arith
  first_at n x h w l (LoopOpen s) c a = grind arith
  first_at n x h w l (NotWaiting p s) c a = grind arith
  first_at n x h w l (ClassNeglected j) c a = grind arith
