-- What a test of an option's value decides. Assumes nothing.
use Rattle.std.proofs.Common.{◌≡◌, ℕ, Bool, false, List, Some, None, Decides, Option, arith}
use Rattle.std.specs.Option.{MatchOption}
use Rattle.std.specs.Prelude.{IsTrue}
use Rattle.rank.specs.declared.Row.{Row}
use Rattle.rank_rule.specs.Certificate.{Certificate, HasRow}
use Rattle.certificate_theory.specs.Points.{OnlyRow}

-- of the row of a process at a state
module _ {X : Type 0} (value : X → Row (List ℕ)) (C : Certificate) (p s : ℕ) where
  pub row_or_none : (o : Option X) (r : Bool) {Q : X → Type 0} (P : Type 0)
      → (elim o as (λ x. Type 0) [ Some row ↦ OnlyRow C p s (value row) | None ↦ ¬ HasRow C p s ]) → MatchOption o (IsTrue r) Q
      → ((x : X) → OnlyRow C p s (value x) → Q x → Decides r P) → (¬ HasRow C p s → P) → Decides r P
  row_or_none (Some x) r P only q some none = some x only q
  row_or_none None r P absent passes some none = ((λ _. none absent), (λ _. passes))

  pub row_and_some : (o : Option X) (r : Bool) {Q : X → Type 0} (P : Type 0)
      → (elim o as (λ x. Type 0) [ Some row ↦ OnlyRow C p s (value row) | None ↦ ¬ HasRow C p s ]) → MatchOption o (r ≡ false) Q
      → ((x : X) → OnlyRow C p s (value x) → Q x → Decides r P) → (¬ HasRow C p s → ¬ P) → Decides r P
  row_and_some (Some x) r P only q some none = some x only q
  row_and_some None r P absent fails some none = (
    (λ yes. let z : ◌≡◌ {A = ℕ} 0 1 = cc in absurd (let f : ⊥ = omega arith in f)),
    (λ h. absurd (none absent h)),
  )
