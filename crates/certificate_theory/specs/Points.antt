-- The least process, state and command at which something fails. Assumes nothing.
use Rattle.std.specs.Prelude.{◌≡◌, ℕ, ◌<◌, List, Some, None, Option}
use Rattle.rank.specs.declared.Row.{Row}
use Rattle.rank_rule.specs.Certificate.{Certificate, RowAt, HasRow}
use Rattle.certificate_theory.specs.declared.point.Point.{Point}
use Rattle.certificate_theory.specs.declared.point.Spot.{Spot}
use Rattle.certificate_theory.specs.Judging.{Before}

-- In one state: the least process below `limit`, then the least command, at which it does not hold; or it holds at all.
abbrev pub LeastSpot : (ℕ → ℕ → Type 0) → ℕ → Option Spot → Type 0
LeastSpot HoldsAt limit None = (p k : ℕ) → p < limit → HoldsAt p k
LeastSpot HoldsAt limit (Some x) =
    (x.process < limit) × (¬ HoldsAt x.process x.command)
    × ((q l : ℕ) → q < x.process → HoldsAt q l) × ((l : ℕ) → l < x.command → HoldsAt x.process l)

-- In the states below n: the least process below `limit`, then the least state, then the least command, at which it does
-- not hold; or it holds at all.
abbrev pub LeastPoint : (ℕ → ℕ → ℕ → Type 0) → ℕ → ℕ → Option Point → Type 0
LeastPoint HoldsAt limit n None = (p s k : ℕ) → p < limit → s < n → HoldsAt p s k
LeastPoint HoldsAt limit n (Some x) =
    (x.spot.process < limit) × (x.state < n) × (¬ HoldsAt x.spot.process x.state x.spot.command)
    × ((q t l : ℕ) → q < limit → t < n → Before q t l x.spot.process x.state x.spot.command → HoldsAt q t l)

-- `row` is the one row of the process p at the state s.
abbrev pub OnlyRow : Certificate → ℕ → ℕ → Row (List ℕ) → Type 0
OnlyRow C p s row = RowAt C p s row × ((other : Row (List ℕ)) → RowAt C p s other → other ≡ row)

-- The one row of p at s, or that there is none.
abbrev pub RowFound : Certificate → ℕ → ℕ → Option (Row (List ℕ)) → Type 0
RowFound C p s (Some row) = OnlyRow C p s row
RowFound C p s None = ¬ HasRow C p s
