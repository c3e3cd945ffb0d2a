-- What a loop over processes or commands finds. Assumes nothing.
use Rattle.std.proofs.Common.{◌≡◌, ℕ, ◌<◌, ◌≤◌, false, Some, None, Decides, arith}
use Rattle.system.specs.Justice.{FairSystem, Lawful}
use Rattle.certificate_theory.specs.declared.point.Spot.{Spot}
use Rattle.certificate_theory.specs.Points.{LeastSpot}

abbrev pub spot : ℕ → ℕ → Spot
spot p k = record { process = p; command = k }

pub denied : {P : Type 0} → Decides false P → ¬ P
denied d h = let e = d.1 h in let z : ◌≡◌ {A = ℕ} 0 1 = cc in omega arith

-- a command that the system has not leads nowhere
pub past_commands : (S : FairSystem) → Lawful S → (s k t : ℕ) → S.steps.commands ≤ k → S.steps.next s k ≡ Some t → ⊥
past_commands S law s k t h e = let b = (law.steps.next_below s k t e).1 in omega arith

-- over processes
module _ (H : ℕ → Type 0) (limit : ℕ) where
  pub process_fails : (p : ℕ) → p < limit → ¬ H p → ((q : ℕ) → q < p → H q) → LeastSpot (λ q k. H q) limit (Some (spot p 0))
  process_fails p below fails lower = (below, fails, (λ q l h. lower q h), (λ l h. absurd (let f : ⊥ = omega arith in f)))

  pub processes_hold : (p : ℕ) → limit ≤ p → ((q : ℕ) → q < p → H q) → LeastSpot (λ q k. H q) limit None
  processes_hold p past lower = λ q k h. lower q (omega arith)

-- over commands
module _ (H : ℕ → Type 0) (limit : ℕ) where
  pub command_fails : (k : ℕ) → 0 < limit → ¬ H k → ((l : ℕ) → l < k → H l) → LeastSpot (λ q l. H l) limit (Some (spot 0 k))
  command_fails k some fails lower = (some, fails, (λ q l h. absurd (let f : ⊥ = omega arith in f)), lower)
