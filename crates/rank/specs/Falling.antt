-- Why no chain of numbers, and none of pairs, falls for ever. Assumes nothing.
use Rattle.std.specs.Prelude.{◌≡◌, ℕ, zero, suc, ◌+◌, ◌<◌, ◌≤◌, ◌⊎◌}
use Rattle.std.proofs.Common.{inl, inr, arith}

-- A chain that falls i times began at i or more.
sinks : (f : ℕ → ℕ) → ((i : ℕ) → f (suc i) < f i) → (i : ℕ) → f i + i ≤ f 0
sinks f falls zero = omega arith
sinks f falls (suc i) = let h = sinks f falls i in let g = falls i in omega arith

pub numbers_never_fall : (f : ℕ → ℕ) → ¬ ((i : ℕ) → f (suc i) < f i)
numbers_never_fall f falls = let h = sinks f falls (suc (f 0)) in omega arith

-- The pair (a, b) is below (c, d): by the first number, then the second.
abbrev pub Lower : ℕ → ℕ → ℕ → ℕ → Type 0
Lower a b c d = (a < c) ⊎ ((a ≡ c) × (b < d))

module _ (f g : ℕ → ℕ) (falls : (i : ℕ) → Lower (f (suc i)) (g (suc i)) (f i) (g i)) where
  -- Within `more` steps the first number falls, since the second cannot fall so often.
  drops : (more i : ℕ) → g i < more → (k : ℕ) × (f k < f i)
  drops zero i h = absurd (omega arith)
  drops (suc more) i h = by (λ l. drops more (suc i) l) (falls i)
    where
      by : (g (suc i) < more → (k : ℕ) × (f k < f (suc i))) → Lower (f (suc i)) (g (suc i)) (f i) (g i) → (k : ℕ) × (f k < f i)
      by on (inl below) = (suc i, below)
      by on (inr (same, below)) = let (k, lower) = on (omega arith) in (k, omega arith)

  never : (bound i : ℕ) → f i < bound → ⊥
  never zero i h = omega arith
  never (suc bound) i h = let (k, lower) = drops (suc (g i)) i (omega arith) in never bound k (omega arith)

pub pairs_never_fall : (f g : ℕ → ℕ) → ¬ ((i : ℕ) → Lower (f (suc i)) (g (suc i)) (f i) (g i))
pairs_never_fall f g falls = never f g falls (suc (f 0)) 0 (omega arith)
