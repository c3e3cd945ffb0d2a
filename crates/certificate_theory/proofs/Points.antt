-- One state more, in a search for the least point. Assumes nothing.
use Rattle.std.proofs.Common.{◌≡◌, ℕ, ◌+◌, ◌<◌, ◌≤◌, ◌⊎◌, Some, None, Option, sym, subst, inl, inr, arith}
use Rattle.certificate_theory.specs.declared.point.Point.{Point}
use Rattle.certificate_theory.specs.declared.point.Spot.{Spot}
use Rattle.certificate_theory.specs.Judging.{Before}
use Rattle.certificate_theory.specs.Points.{LeastSpot, LeastPoint}

-- the processes that are still of interest: those below the process found
abbrev pub limit_after : ℕ → Option Point → ℕ
limit_after P None = P
limit_after P (Some x) = x.spot.process

abbrev pub point : ℕ → Spot → Point
point s x = record { state = s; spot = x }

below_or_at : (t n : ℕ) → t < n + 1 → (t < n) ⊎ (t ≡ n)
below_or_at t n h = grind arith

module _ (HoldsAt : ℕ → ℕ → ℕ → Type 0) (P n : ℕ) where
  at_spot : (limit : ℕ) (x : Spot) → LeastSpot (λ p k. HoldsAt p n k) limit (Some x)
      → (q l : ℕ) → Before q n l x.process n x.command → HoldsAt q n l
  at_spot limit x r q l (inl lower) = r.2 q l lower
  at_spot limit x r q l (inr (e, inl late)) = absurd (omega arith)
  at_spot limit x r q l (inr (e, inr (_, lower))) = subst (λ p. HoldsAt p n l) (sym e) (r.3 l lower)

  -- nothing fails in the state n
  pub kept_point : (found : Option Point) → LeastPoint HoldsAt P n found
      → LeastSpot (λ p k. HoldsAt p n k) (limit_after P found) None → LeastPoint HoldsAt P (n + 1) found
  kept_point None before here = all
    where
      all : (p s k : ℕ) → p < P → s < n + 1 → HoldsAt p s k
      all p s k below early = by (below_or_at s n early)
        where
          by : (s < n) ⊎ (s ≡ n) → HoldsAt p s k
          by (inl h) = before p s k below h
          by (inr e) = subst (λ t. HoldsAt p t k) (sym e) (here p k below)
  kept_point (Some x) (below, early, fails, least) here = (below, omega arith, fails, later)
    where
      at_n : (q l : ℕ) → Before q n l x.spot.process x.state x.spot.command → HoldsAt q n l
      at_n q l (inl lower) = here q l lower
      at_n q l (inr (e, inl late)) = absurd (omega arith)
      at_n q l (inr (e, inr (same, _))) = absurd (omega arith)

      later : (q t l : ℕ) → q < P → t < n + 1 → Before q t l x.spot.process x.state x.spot.command → HoldsAt q t l
      later q t l in-range soon earlier = by (below_or_at t n soon)
        where
          by : (t < n) ⊎ (t ≡ n) → HoldsAt q t l
          by (inl h) = least q t l in-range h earlier
          by (inr e) =
              subst (λ u. HoldsAt q u l) (sym e)
              (at_n q l (subst (λ u. Before q u l x.spot.process x.state x.spot.command) e earlier))

  -- it fails in the state n, at a process below the one found before
  pub new_point : (found : Option Point) (y : Spot) → LeastPoint HoldsAt P n found
      → LeastSpot (λ p k. HoldsAt p n k) (limit_after P found) (Some y) → LeastPoint HoldsAt P (n + 1) (Some (point n y))
  new_point None y before here = (here.0, omega arith, here.1, later)
    where
      later : (q t l : ℕ) → q < P → t < n + 1 → Before q t l y.process n y.command → HoldsAt q t l
      later q t l in-range soon earlier = by (below_or_at t n soon)
        where
          by : (t < n) ⊎ (t ≡ n) → HoldsAt q t l
          by (inl h) = before q t l in-range h
          by (inr e) =
              subst (λ u. HoldsAt q u l) (sym e)
              (at_spot P y here q l (subst (λ u. Before q u l y.process n y.command) e earlier))
  new_point (Some x) y (below, early, fails, least) here = (omega (arith, here.0), omega arith, here.1, later)
    where
      at_most : (q t l : ℕ) → Before q t l y.process n y.command → q ≤ y.process
      at_most q t l (inl lower) = omega arith
      at_most q t l (inr (e, _)) = omega arith

      later : (q t l : ℕ) → q < P → t < n + 1 → Before q t l y.process n y.command → HoldsAt q t l
      later q t l in-range soon earlier = by (below_or_at t n soon)
        where
          by : (t < n) ⊎ (t ≡ n) → HoldsAt q t l
          by (inl h) = let m = at_most q t l earlier in let z = here.0 in least q t l in-range h (inl (omega arith))
          by (inr e) =
              subst (λ u. HoldsAt q u l) (sym e)
              (at_spot x.spot.process y here q l (subst (λ u. Before q u l y.process n y.command) e earlier))

-- where no state from n on matters
pub everywhere : (HoldsAt : ℕ → ℕ → ℕ → Type 0) (P n : ℕ) → ((p s k : ℕ) → p < P → n ≤ s → HoldsAt p s k)
    → LeastPoint HoldsAt P n None → (p s k : ℕ) → p < P → HoldsAt p s k
everywhere HoldsAt P n outside none p s k below = by (which s n)
  where
    which : (a b : ℕ) → (a < b) ⊎ (b ≤ a)
    which a b = grind arith

    by : (s < n) ⊎ (n ≤ s) → HoldsAt p s k
    by (inl h) = none p s k below h
    by (inr h) = outside p s k below h

pub least_of_all : (HoldsAt : ℕ → ℕ → ℕ → Type 0) (P n : ℕ) → ((p s k : ℕ) → p < P → n ≤ s → HoldsAt p s k)
    → (x : Point) → LeastPoint HoldsAt P n (Some x) → (q t l : ℕ) → q < P → Before q t l x.spot.process x.state x.spot.command → HoldsAt q t l
least_of_all HoldsAt P n outside x (below, early, fails, least) q t l in-range earlier = by (which t n)
  where
    which : (a b : ℕ) → (a < b) ⊎ (b ≤ a)
    which a b = grind arith

    by : (t < n) ⊎ (n ≤ t) → HoldsAt q t l
    by (inl h) = least q t l in-range h earlier
    by (inr h) = outside q t l in-range h
