-- The rank rule, command by command, where the successors are at hand. Assumes nothing.
use Rattle.std.specs.Prelude.{◌≡◌, ℕ, ◌<◌, List, Some, None, Option}
use Rattle.system.specs.Transitions.{Waits}
use Rattle.system.specs.Justice.{FairSystem}
use Rattle.rank.specs.declared.Row.{Row}
use Rattle.rank.specs.Kinds.{Kind}
use Rattle.rank_rule.specs.Certificate.{Certificate, RowAt}
use Rattle.rank_rule.specs.Rule.{FallsTo}

-- The command k leads from `row` to `to`, if anywhere; where p waits there, the rule lets it.
abbrev pub FallsBy : Kind → FairSystem → Certificate → ℕ → Row (List ℕ) → ℕ → Option ℕ → Type 0
FallsBy K S C p row k to = (t : ℕ) → to ≡ Some t → Waits S.steps p t → FallsTo K S C p row k t

-- The same of each row of p at s.
abbrev pub RanksFallBy : Kind → FairSystem → Certificate → ℕ → ℕ → ℕ → Option ℕ → Type 0
RanksFallBy K S C p s k to = (row : Row (List ℕ)) → RowAt C p s row → FallsBy K S C p row k to

-- The least command below 64 where it does not hold; or it holds at all of them.
abbrev pub LeastCommand : (ℕ → Type 0) → Option ℕ → Type 0
LeastCommand H (Some k) = (k < 64) × (¬ H k) × ((l : ℕ) → l < k → H l)
LeastCommand H None = (l : ℕ) → l < 64 → H l
