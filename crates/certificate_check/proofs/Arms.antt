-- What holds of a clause holds of the clause at hand; and what the right answer shows. Assumes nothing.
use Rattle.std.proofs.Common.{◌≡◌, ℕ, List, Ok, Err, Option, Result, sym, subst, arith}
use Rattle.system.specs.Justice.{FairSystem, Lawful, CorrectLock}
use Rattle.rank.specs.Kinds.{Kind}
use Rattle.rank.specs.Laws.{LawfulKind}
use Rattle.rank_rule.specs.Certificate.{Certificate}
use Rattle.rank_rule.proofs.Soundness.{rank_rule_is_sound_lem}
use Rattle.certificate_theory.specs.declared.clause.Clause.{Clause}
use Rattle.certificate_theory.specs.declared.point.Spot.{Spot}
use Rattle.certificate_theory.specs.declared.refusal.Refusal.{Refusal}
use Rattle.certificate_theory.specs.Content.{limits_of_lem, content}
use Rattle.certificate_theory.specs.Judging.{HoldsAt, Answered}
use Rattle.certificate_theory.specs.Points.{LeastSpot}

pub in_clause : (K : Kind) (S : FairSystem) (C : Certificate) (s limit : ℕ) (r : Option Spot) (c d : Clause) → c ≡ d
    → LeastSpot (λ p k. HoldsAt K S C d p s k) limit r → LeastSpot (λ p k. HoldsAt K S C c p s k) limit r
in_clause K S C s limit r c d e h = subst (λ (x : Clause). LeastSpot (λ p k. HoldsAt K S C x p s k) limit r) (sym e) h

pub answer_is_correct : (K : Kind) → LawfulKind K → (S : FairSystem) → Lawful S → (bytes : List ℕ) (r : Result (Unit {0}) Refusal)
    → Answered K S bytes r → r ≡ Ok tt → CorrectLock S
answer_is_correct K laws S law bytes (Ok x) a e = rank_rule_is_sound_lem K laws S law (content (limits_of_lem K S) bytes) a.meets_rule
answer_is_correct K laws S law bytes (Err d) a e = let z : ◌≡◌ {A = ℕ} 0 1 = cc in absurd (let f : ⊥ = omega arith in f)
