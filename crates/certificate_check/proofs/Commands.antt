-- Steps of the search for a command that breaks the rank rule. Assumes nothing.
use Rattle.std.proofs.Common.{◌≡◌, ℕ, zero, suc, ◌<◌, ◌≤◌, Bool, true, ◌⊎◌, ◌↔◌, List, length, get_or, replicate, Some, None, Decides, Option, sym, refl, ◌∙◌, subst, inl, inr, arith}
use Rattle.std.specs.Option.{MatchOption}
use Rattle.std.specs.Prelude.{IsTrue}
use Rattle.system.specs.Transitions.{Waits}
use Rattle.system.specs.Justice.{FairSystem, Lawful}
use Rattle.rank.specs.declared.Row.{Row}
use Rattle.rank.specs.Kinds.{Kind}
use Rattle.rank.specs.Rows.{Falls}
use Rattle.rank_rule.specs.Certificate.{Certificate, HasRow}
use Rattle.rank_rule.specs.Rule.{FallsTo, RanksFallAt}
use Rattle.certificate_theory.specs.Points.{LeastSpot, OnlyRow}
use Rattle.certificate_theory.proofs.Spots.{spot}
use Rattle.certificate_check.specs.Commands.{FallsBy, RanksFallBy, LeastCommand}

pub below_or_past : (a b : ℕ) → (a < b) ⊎ (b ≤ a)
below_or_past a b = grind arith

-- sixty-four times nothing
pub sixty_four : length (replicate {A = Option ℕ} 64 None) ≡ 64
sixty_four = refl

pub none_at : (n k : ℕ) → get_or (replicate {A = Option ℕ} n None) k None ≡ None
none_at zero zero = refl
none_at zero (suc k) = refl
none_at (suc n) zero = refl
none_at (suc n) (suc k) = none_at n k

-- a successor past the last command
pub no_successor : (S : FairSystem) → Lawful S → (s k : ℕ) → S.steps.commands ≤ k → S.steps.next s k ≡ None
no_successor S law s k h = by (S.steps.next s k) refl
  where
    by : (o : Option ℕ) → S.steps.next s k ≡ o → S.steps.next s k ≡ None
    by (Some t) e = let b = (law.steps.next_below s k t e).1 in absurd (let f : ⊥ = omega arith in f)
    by None e = e

module _ (K : Kind) (S : FairSystem) (C : Certificate) (p : ℕ) (row : Row (List ℕ)) (k : ℕ) where
  -- what the rule says of the one row at t
  pub falls_decides : (t : ℕ) (after : Row (List ℕ)) (taken : Option ℕ) (r : Bool) → OnlyRow C p t after → Waits S.steps p t
      → taken ≡ S.class k → (r ≡ true ↔ Falls K row after (taken ≡ Some row.class))
      → Decides r (Waits S.steps p t → FallsTo K S C p row k t)
  falls_decides t after taken r only waits same told =
      let f = subst (λ (c : Option ℕ). r ≡ true ↔ Falls K row after (c ≡ Some row.class)) same told in (
        (λ yes w. (after, only.0, f.0 yes)),
        (λ h. let (other, at, falls) = h waits in f.1 (subst (λ x. Falls K row x (S.class k ≡ Some row.class)) (only.1 other at) falls)),
      )

  pub no_row_falls : (t : ℕ) → ¬ HasRow C p t → Waits S.steps p t → ¬ (Waits S.steps p t → FallsTo K S C p row k t)
  no_row_falls t none waits h = let (other, at, _) = h waits in none (other, at)

  pub falls_by : (to : Option ℕ) (r : Bool) {Q : ℕ → Type 0} → MatchOption to (IsTrue r) Q
      → ((t : ℕ) → Q t → Decides r (Waits S.steps p t → FallsTo K S C p row k t)) → Decides r (FallsBy K S C p row k to)
  falls_by (Some t) r q decides = let d = decides t q in (
    (λ yes u e w. let same : t ≡ u = cc in
        subst (FallsTo K S C p row k) same (d.0 yes (subst (λ (x : ℕ). Waits S.steps p x) (sym same) w))),
    (λ h. d.1 (λ w. h t refl w)),
  )
  falls_by None r passes decides = ((λ _ t e. let z : ◌≡◌ {A = ℕ} 0 1 = cc in absurd (let f : ⊥ = omega arith in f)), (λ _. passes))

-- the one row of a process at a state
pub row_command : (K : Kind) (S : FairSystem) (C : Certificate) (p s : ℕ) (row : Row (List ℕ)) (to : List (Option ℕ)) (r : Option ℕ)
    → OnlyRow C p s row → LeastCommand (λ k. FallsBy K S C p row k (get_or to k None)) r
    → LeastCommand (λ k. RanksFallBy K S C p s k (get_or to k None)) r
row_command K S C p s row to (Some k) only (few, fails, lower) = (
  few,
  (λ h. fails (h row only.0)),
  (λ l h other at. subst (λ x. FallsBy K S C p x l (get_or to l None)) (sym (only.1 other at)) (lower l h)),
)
row_command K S C p s row to None only all =
    λ l h other at. subst (λ x. FallsBy K S C p x l (get_or to l None)) (sym (only.1 other at)) (all l h)

pub no_row_command : (K : Kind) (S : FairSystem) (C : Certificate) (p s : ℕ) (to : List (Option ℕ)) → ¬ HasRow C p s
    → LeastCommand (λ k. RanksFallBy K S C p s k (get_or to k None)) None
no_row_command K S C p s to none = λ l h other at. absurd (none (other, at))

module _ (K : Kind) (S : FairSystem) (law : Lawful S) (C : Certificate) (s limit : ℕ) (to : List (Option ℕ)) (is : (k : ℕ) → get_or to k None ≡ S.steps.next s k) where
  turned : (p k : ℕ) → RanksFallBy K S C p s k (get_or to k None) → RanksFallAt K S C p s k
  turned p k h row t at e waits = h row at t (is k ∙ e) waits

  back : (p k : ℕ) → RanksFallAt K S C p s k → RanksFallBy K S C p s k (get_or to k None)
  back p k h row at t e waits = h row t at (sym (is k) ∙ e) waits

  -- all commands of one process
  pub process_holds : (p : ℕ) → LeastCommand (λ k. RanksFallBy K S C p s k (get_or to k None)) None → (k : ℕ) → RanksFallAt K S C p s k
  process_holds p all k = by (below_or_past k 64)
    where
      by : (k < 64) ⊎ (64 ≤ k) → RanksFallAt K S C p s k
      by (inl h) = turned p k (all k h)
      by (inr h) = λ row t at e waits.
          let few = law.steps.few_commands in
          let b = (law.steps.next_below s k t e).1 in
          absurd (let f : ⊥ = omega arith in f)

  pub spot_found : (p k : ℕ) → p < limit → LeastCommand (λ l. RanksFallBy K S C p s l (get_or to l None)) (Some k)
      → ((q : ℕ) → q < p → (l : ℕ) → RanksFallAt K S C q s l) → LeastSpot (λ q l. RanksFallAt K S C q s l) limit (Some (spot p k))
  spot_found p k below (few, fails, lower) before =
      (below, (λ h. fails (back p k h)), (λ q l h. before q h l), (λ l h. turned p l (lower l h)))
