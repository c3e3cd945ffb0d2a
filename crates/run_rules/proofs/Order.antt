-- The order of the causes is that of their numbers.
use Rattle.std.proofs.Common.{◌≡◌, ℕ, ◌+◌, ◌<◌, ◌⊎◌, refl, inl, inr, arith}
use Rattle.place.specs.declared.Place.{Place}
use Rattle.run_refusal.specs.declared.RunRefusal.{RunRefusal}
use Rattle.run_refusal.specs.declared.RunRefusal.TheVariants.{WrongLength, WrongKind, WrongProcess, WrongStep, WrongLoopCount, StepDisabled, NoClash, LoopOpen, NotWaiting, ClassNeglected}
use Rattle.run_refusal.specs.Refusals.{number, placed, order_of_causes, before, Earlier}
use Rattle.run_rules.specs.Causes.{Ahead, PlaceBefore, Reading}

in_order : (d : RunRefusal) → before order_of_causes (number d) + 31 ≡ number d
in_order (WrongLength i) = refl
in_order WrongKind = refl
in_order WrongProcess = refl
in_order (WrongStep i) = refl
in_order (WrongLoopCount i) = refl
in_order (StepDisabled i k) = refl
in_order (NoClash s) = refl
in_order (LoopOpen s) = refl
in_order (NotWaiting p s) = refl
in_order (ClassNeglected j) = refl

pub earlier_lower : (d e : RunRefusal) → Earlier (number d) (number e) → number d < number e
earlier_lower d e h = omega (arith, in_order d, in_order e)

-- As `Ahead`, by numbers.
abbrev pub AheadBy : ℕ → Place → ℕ → Place → Type 0
AheadBy m a n b =
    (Reading m × Reading n × ((a.index < b.index) ⊎ ((a.index ≡ b.index) × (m < n))))
    ⊎ ((Reading m × ¬ Reading n) ⊎ (¬ Reading m × ¬ Reading n × ((m < n) ⊎ ((m ≡ n) × PlaceBefore a b))))

pub ahead_by : (d e : RunRefusal) → Ahead (number d) (placed d) (number e) (placed e) → AheadBy (number d) (placed d) (number e) (placed e)
ahead_by d e (inl (r, q, inl h)) = inl (r, q, inl h)
ahead_by d e (inl (r, q, inr (i, h))) = inl (r, q, inr (i, earlier_lower d e h))
ahead_by d e (inr (inl h)) = inr (inl h)
ahead_by d e (inr (inr (r, q, inl h))) = inr (inr (r, q, inl (earlier_lower d e h)))
ahead_by d e (inr (inr (r, q, inr h))) = inr (inr (r, q, inr h))
