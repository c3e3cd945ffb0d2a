-- What is gathered over the states that the steps of a part of a run are taken in.
use Rattle.std.proofs.Common.{◌≡◌, ℕ, min, Bool, true, false, not, cond, ◌&&◌, List, [], ◌∷◌, map, filter, fold, Some, None, Option, refl, ap}
use Rattle.std.specs.List.{list_all, reduce}
use Rattle.system.specs.Transitions.{Transitions}
use Rattle.system.specs.Justice.{FairSystem}
use Rattle.run_rules.specs.Judging.{or_else, after, visits, is_try, lower, least_idle, owed, neglected}

-- The states visited where p does not wait.
abbrev pub idle_states : Transitions → ℕ → List (ℕ × ℕ) → List ℕ
idle_states T p vs = filter (λ s. not (is_try (T.region s p))) (map (λ e. e.0) vs)

-- The lowest of them and of one held.
idle_beside : (T : Transitions) (p h s : ℕ) (bs : List ℕ) →
    ◌≡◌ {A = Option ℕ} (Some (fold min h (idle_states T p (visits T s bs)))) (least_idle T p (Some h) s bs)
idle_beside T p h s [] = refl
idle_beside T p h s (b ∷ bs) = by_both (is_try (T.region s p)) (after T s b) (λ t k. idle_beside T p k t bs)
  where
    by_both : (x : Bool) (o : Option ℕ) →
        ((t k : ℕ) → ◌≡◌ {A = Option ℕ} (Some (fold min k (idle_states T p (visits T t bs)))) (least_idle T p (Some k) t bs)) →
        ◌≡◌ {A = Option ℕ} (Some (fold min h (cond (not x) (s ∷ idle_states T p (or_else o (λ t. visits T t bs) [])) (idle_states T p (or_else o (λ t. visits T t bs) [])))))
        (or_else o (λ t. least_idle T p (cond x (Some h) (lower (Some h) s)) t bs) (cond x (Some h) (lower (Some h) s)))
    by_both true None same = refl
    by_both true (Some t) same = same t h
    by_both false None same = refl
    by_both false (Some t) same = same t (min h s)

-- The lowest of them.
pub idle_visits : (T : Transitions) (p s : ℕ) (bs : List ℕ) → reduce min (idle_states T p (visits T s bs)) ≡ least_idle T p None s bs
idle_visits T p s [] = refl
idle_visits T p s (b ∷ bs) = by_both (is_try (T.region s p)) (after T s b) (λ t. idle_visits T p t bs)
  where
    by_both : (x : Bool) (o : Option ℕ) → ((t : ℕ) → reduce min (idle_states T p (visits T t bs)) ≡ least_idle T p None t bs) →
        reduce min (cond (not x) (s ∷ idle_states T p (or_else o (λ t. visits T t bs) [])) (idle_states T p (or_else o (λ t. visits T t bs) [])))
        ≡ or_else o (λ t. least_idle T p (cond x None (lower None s)) t bs) (cond x None (lower None s))
    by_both true None same = refl
    by_both true (Some t) same = same t
    by_both false None same = refl
    by_both false (Some t) same = idle_beside T p s t bs

-- A class is neglected when it is owed at each state visited.
pub neglected_visits : (S : FairSystem) (j s : ℕ) (bs : List ℕ) →
    list_all (λ e. owed S j e.0 e.1) (visits S.steps s bs) ≡ neglected S j s bs
neglected_visits S j s [] = refl
neglected_visits S j s (b ∷ bs) = ap (λ x. owed S j s b && x) (by_next (after S.steps s b) (λ t. neglected_visits S j t bs))
  where
    by_next : (o : Option ℕ) → ((t : ℕ) → list_all (λ e. owed S j e.0 e.1) (visits S.steps t bs) ≡ neglected S j t bs) →
        list_all (λ e. owed S j e.0 e.1) (or_else o (λ t. visits S.steps t bs) []) ≡ or_else o (λ t. neglected S j t bs) true
    by_next None same = refl
    by_next (Some t) same = same t
