-- The clauses in their order: what a loop over them finds, and that the right answer is one. Assumes nothing.
use Rattle.std.proofs.Common.{◌≡◌, ℕ, suc, ◌+◌, ◌<◌, ◌≤◌, ◌⊎◌, List, [], ◌∷◌, ◌++◌, length, get_or, take, drop, Some, None, Ok, Err, Result, sym, refl, ap, ◌∙◌, subst, inl, inr, add-one, arith, take-append-drop, drop-cons}
use Rattle.std.specs.List.{ContainsAt as Has}
use Rattle.std.proofs.lemmas.List.{take_more, take_all}
use Rattle.std.proofs.ByRecursion.{has_push_cases}
use Rattle.system.specs.Justice.{FairSystem, Lawful}
use Rattle.rank.specs.Kinds.{Kind}
use Rattle.rank_rule.specs.Certificate.{Certificate}
use Rattle.rank_rule.specs.Rule.{MeetsRule}
use Rattle.certificate_theory.specs.declared.clause.Clause.{Clause}
use Rattle.certificate_theory.specs.declared.clause.Clause.TheVariants.{StartListed, NoListedClash, SuccessorsListed, RowsExact, ClassesEnabled, RanksFall}
use Rattle.certificate_theory.specs.declared.limits.Limits.{Limits}
use Rattle.certificate_theory.specs.declared.point.Point.{Point}
use Rattle.certificate_theory.specs.declared.refusal.Refusal.{Refusal}
use Rattle.certificate_theory.specs.Refusals.{broken, order}
use Rattle.certificate_theory.specs.Reading.{Reads, ReadingRefused}
use Rattle.certificate_theory.specs.Claims.{AcceptedOrRefused, OneRefusal}
use Rattle.certificate_theory.specs.Content.{limits_of_lem, content}
use Rattle.certificate_theory.specs.Judging.{HoldsAt, Holds, Before, RuleRefused, Certifies, Answered, Judged}
use Rattle.certificate_theory.specs.Points.{LeastPoint}
use Rattle.certificate_theory.proofs.Points.{everywhere, least_of_all}
use Rattle.certificate_theory.proofs.Scans.{none_fault, some_fault}
use Rattle.certificate_theory.proofs.Finds.{outside, rule_from_clauses, clauses_from_rule}

split_at : {A : Type 0} (xs : List A) (i : ℕ) (d : A) → i < length xs → xs ≡ take i xs ++ (get_or xs i d ∷ drop (i + 1) xs)
split_at xs i d h =
    sym (take-append-drop i xs)
    ∙ ap (λ ys. take i xs ++ ys) (drop-cons xs i d h ∙ ap (λ n. get_or xs i d ∷ drop n xs) (sym (add-one i)))

-- the first i clauses hold
abbrev pub FirstHold : Kind → FairSystem → Certificate → ℕ → Type 0
FirstHold K S C i = (c : Clause) → Has (take i order) c → Holds K S C c

pub none_first : (K : Kind) (S : FairSystem) (C : Certificate) → FirstHold K S C 0
none_first K S C c (k, h, _) = absurd (let f : ⊥ = omega arith in f)

pub one_more : (K : Kind) (S : FairSystem) (C : Certificate) (i : ℕ) (d : Clause) → i < length order
    → FirstHold K S C i → Holds K S C (get_or order i d) → FirstHold K S C (i + 1)
one_more K S C i d h first holds c has =
    by (has_push_cases (take i order) (get_or order i d) c (subst (λ (xs : List Clause). Has xs c) (take_more order i d h) has))
  where
    by : Has (take i order) c ⊎ (get_or order i d ≡ c) → Holds K S C c
    by (inl earlier) = first c earlier
    by (inr same) = subst (Holds K S C) same holds

at_place : (n i : ℕ) (c : Clause) → 6 ≤ n → i < 6 → ((d : Clause) → get_or order i d ≡ c) → Has (take n order) c
at_place n i c long h read = subst (λ (xs : List Clause). Has xs c) (sym (take_all n order long)) (i, h, read)

pub all_hold : (K : Kind) (S : FairSystem) (C : Certificate) (n : ℕ) → 6 ≤ n → FirstHold K S C n → (clause : Clause) → Holds K S C clause
all_hold K S C n h first StartListed = first StartListed (at_place n 0 StartListed h (omega arith) (λ d. refl))
all_hold K S C n h first NoListedClash = first NoListedClash (at_place n 1 NoListedClash h (omega arith) (λ d. refl))
all_hold K S C n h first SuccessorsListed = first SuccessorsListed (at_place n 2 SuccessorsListed h (omega arith) (λ d. refl))
all_hold K S C n h first RowsExact = first RowsExact (at_place n 3 RowsExact h (omega arith) (λ d. refl))
all_hold K S C n h first ClassesEnabled = first ClassesEnabled (at_place n 4 ClassesEnabled h (omega arith) (λ d. refl))
all_hold K S C n h first RanksFall = first RanksFall (at_place n 5 RanksFall h (omega arith) (λ d. refl))

module _ (K : Kind) (S : FairSystem) (law : Lawful S) (bytes : List ℕ) (L : Limits) (same : L ≡ limits_of_lem K S) (reads : Reads L bytes) where
  abbrev C : Certificate
  C = content L bytes

  read_here : Reads (limits_of_lem K S) bytes
  read_here = subst (λ (M : Limits). Reads M bytes) same reads

  out_of_range : (clause : Clause) (p s k : ℕ) → p < S.steps.processes → S.steps.states ≤ s → HoldsAt K S C clause p s k
  out_of_range clause p s k below h =
      subst (λ (M : Limits). HoldsAt K S (content M bytes) clause p s k) (sym same) (outside K S law bytes read_here clause p s k below h)

  -- a clause that fails in no state of the system holds
  pub clause_holds : (clause : Clause) → LeastPoint (HoldsAt K S C clause) S.steps.processes S.steps.states None → Holds K S C clause
  clause_holds clause none = everywhere (HoldsAt K S C clause) S.steps.processes S.steps.states (out_of_range clause) none

  -- the clause that fails after those that hold decides
  pub clause_refused : (i : ℕ) (d : Clause) (x : Point) → i < length order → FirstHold K S C i
      → LeastPoint (HoldsAt K S C (get_or order i d)) S.steps.processes S.steps.states (Some x)
      → (e : Refusal) → e ≡ broken (get_or order i d) x.spot.process x.state x.spot.command → RuleRefused K S C e
  clause_refused i d x h first least e is = record {
    earlier = take i order;
    clause = get_or order i d;
    later = drop (i + 1) order;
    in_order = split_at order i d h;
    earlier_hold = first;
    process = x.spot.process;
    state = x.state;
    command = x.spot.command;
    process_below = least.0;
    fails = least.2;
    least = least_of_all (HoldsAt K S C (get_or order i d)) S.steps.processes S.steps.states (out_of_range (get_or order i d)) x least;
    refused = is;
  }

  pub rule_met : (n : ℕ) → 6 ≤ n → FirstHold K S C n → MeetsRule K S C
  rule_met n h first = rule_from_clauses K S law C (all_hold K S C n h first)

  pub judged_answered : {X : Type 0} (r : Result X Refusal) → Judged K S C r → Answered K S bytes r
  judged_answered (Ok x) rule = record { reads = read_here; meets_rule = subst (λ (M : Limits). MeetsRule K S (content M bytes)) same rule }
  judged_answered (Err e) refused = inr (read_here, subst (λ (M : Limits). RuleRefused K S (content M bytes) e) same refused)

-- two ways to split one list
splits : (xs ys : List Clause) (x y : Clause) (xs' ys' : List Clause) → xs ++ (x ∷ xs') ≡ ys ++ (y ∷ ys') → (x ≡ y) ⊎ (Has ys x ⊎ Has xs y)
splits [] [] x y xs' ys' e = inl cc
splits [] (b ∷ ys) x y xs' ys' e = let same : x ≡ b = cc in inr (inl (0, omega arith, λ d. sym same))
splits (a ∷ xs) [] x y xs' ys' e = let same : y ≡ a = cc in inr (inr (0, omega arith, λ d. sym same))
splits (a ∷ xs) (b ∷ ys) x y xs' ys' e = by (splits xs ys x y xs' ys' (let q : xs ++ (x ∷ xs') ≡ ys ++ (y ∷ ys') = cc in q))
  where
    by : (x ≡ y) ⊎ (Has ys x ⊎ Has xs y) → (x ≡ y) ⊎ (Has (b ∷ ys) x ⊎ Has (a ∷ xs) y)
    by (inl same) = inl same
    by (inr (inl (k, h, read))) = inr (inl (suc k, omega arith, read))
    by (inr (inr (k, h, read))) = inr (inr (suc k, omega arith, read))

compared : (i j : ℕ) → (i < j) ⊎ ((i ≡ j) ⊎ (j < i))
compared i j = grind arith

-- of two points one comes before the other, or they are the same
ordered : (p s k q t l : ℕ) → Before p s k q t l ⊎ (Before q t l p s k ⊎ ((p ≡ q) × (s ≡ t) × (k ≡ l)))
ordered p s k q t l = by_process (compared p q)
  where
    by_command : p ≡ q → s ≡ t → (k < l) ⊎ ((k ≡ l) ⊎ (l < k)) → Before p s k q t l ⊎ (Before q t l p s k ⊎ ((p ≡ q) × (s ≡ t) × (k ≡ l)))
    by_command e f (inl h) = inl (inr (e, inr (f, h)))
    by_command e f (inr (inl h)) = inr (inr (e, f, h))
    by_command e f (inr (inr h)) = inr (inl (inr (sym e, inr (sym f, h))))

    by_state : p ≡ q → (s < t) ⊎ ((s ≡ t) ⊎ (t < s)) → Before p s k q t l ⊎ (Before q t l p s k ⊎ ((p ≡ q) × (s ≡ t) × (k ≡ l)))
    by_state e (inl h) = inl (inr (e, inl h))
    by_state e (inr (inl h)) = by_command e h (compared k l)
    by_state e (inr (inr h)) = inr (inl (inr (sym e, inl h)))

    by_process : (p < q) ⊎ ((p ≡ q) ⊎ (q < p)) → Before p s k q t l ⊎ (Before q t l p s k ⊎ ((p ≡ q) × (s ≡ t) × (k ≡ l)))
    by_process (inl h) = inl (inl h)
    by_process (inr (inl h)) = by_state h (compared s t)
    by_process (inr (inr h)) = inr (inl (inl h))

module _ (K : Kind) (S : FairSystem) (C : Certificate) (d e : Refusal) (x : RuleRefused K S C d) (y : RuleRefused K S C e) where
  same_point : x.clause ≡ y.clause
      → Before x.process x.state x.command y.process y.state y.command
      ⊎ (Before y.process y.state y.command x.process x.state x.command
      ⊎ ((x.process ≡ y.process) × (x.state ≡ y.state) × (x.command ≡ y.command)))
      → d ≡ e
  same_point c (inl before) =
      absurd (x.fails (subst (λ (w : Clause). HoldsAt K S C w x.process x.state x.command) (sym c)
      (y.least x.process x.state x.command x.process_below before)))
  same_point c (inr (inl before)) =
      absurd (y.fails (subst (λ (w : Clause). HoldsAt K S C w y.process y.state y.command) c
      (x.least y.process y.state y.command y.process_below before)))
  same_point c (inr (inr (p, s, k))) =
      x.refused
      ∙ ap (λ (w : Clause). broken w x.process x.state x.command) c
      ∙ ap (λ (n : ℕ). broken y.clause n x.state x.command) p
      ∙ ap (λ (n : ℕ). broken y.clause y.process n x.command) s
      ∙ ap (λ (n : ℕ). broken y.clause y.process y.state n) k
      ∙ sym y.refused

  rule_one : d ≡ e
  rule_one = by (splits x.earlier y.earlier x.clause y.clause x.later y.later (sym x.in_order ∙ y.in_order))
    where
      by : (x.clause ≡ y.clause) ⊎ (Has y.earlier x.clause ⊎ Has x.earlier y.clause) → d ≡ e
      by (inl c) = same_point c (ordered x.process x.state x.command y.process y.state y.command)
      by (inr (inl has)) = absurd (x.fails (y.earlier_hold x.clause has x.process x.state x.command x.process_below))
      by (inr (inr has)) = absurd (y.fails (x.earlier_hold y.clause has y.process y.state y.command y.process_below))

reads_not_refused : (K : Kind) (S : FairSystem) (bytes : List ℕ) (e : Refusal) → Reads (limits_of_lem K S) bytes → ¬ ReadingRefused (limits_of_lem K S) bytes e
reads_not_refused K S bytes e reads refused =
    let n = none_fault (limits_of_lem K S) bytes reads in
    let s = some_fault (limits_of_lem K S) bytes e refused in
    let z : ◌≡◌ {A = ℕ} 0 1 = cc in
    omega arith

pub accepted_or_refused_lem : AcceptedOrRefused
accepted_or_refused_lem K S law bytes e c (inl r) = reads_not_refused K S bytes e c.reads r
accepted_or_refused_lem K S law bytes e c (inr (_, r)) =
    r.fails (clauses_from_rule K S law (content (limits_of_lem K S) bytes) c.meets_rule r.clause r.process r.state r.command r.process_below)

pub one_refusal_lem : OneRefusal
one_refusal_lem K S bytes d e (inl x) (inl y) =
    let s = some_fault (limits_of_lem K S) bytes d x in
    let t = some_fault (limits_of_lem K S) bytes e y in
    cc
one_refusal_lem K S bytes d e (inl x) (inr (reads, y)) = absurd (reads_not_refused K S bytes d reads x)
one_refusal_lem K S bytes d e (inr (reads, x)) (inl y) = absurd (reads_not_refused K S bytes e reads y)
one_refusal_lem K S bytes d e (inr (_, x)) (inr (_, y)) = rule_one K S (content (limits_of_lem K S) bytes) d e x y

-- the right answer is acceptance where the certificate meets the rule
pub answered_all : (K : Kind) (S : FairSystem) → Lawful S → (bytes : List ℕ) (r : Result (Unit {0}) Refusal) → Answered K S bytes r → Certifies K S bytes → r ≡ Ok tt
answered_all K S law bytes (Ok tt) a c = refl
answered_all K S law bytes (Err e) a c = absurd (accepted_or_refused_lem K S law bytes e c a)
