-- The rank rule, clause by clause. Assumes nothing.
use Rattle.std.specs.Prelude.{◌≡◌, ℕ, ◌<◌, ◌↔◌, List, Some}
use Rattle.system.specs.Transitions.{Waits, Clash}
use Rattle.system.specs.Justice.{FairSystem, ClassEnabled}
use Rattle.rank.specs.declared.Row.{Row}
use Rattle.rank.specs.Kinds.{Kind}
use Rattle.rank.specs.Rows.{Falls}
use Rattle.rank_rule.specs.Certificate.{Certificate, Listed, RowAt, HasRow}

-- The start is in the state list.
abbrev pub StartListed : FairSystem → Certificate → Type 0
StartListed S C = Listed C S.steps.start

-- No listed state is a clash: at s, and everywhere.
abbrev pub NoListedClashAt : FairSystem → Certificate → ℕ → Type 0
NoListedClashAt S C s = Listed C s → ¬ Clash S.steps s

abbrev pub NoListedClash : FairSystem → Certificate → Type 0
NoListedClash S C = (s : ℕ) → NoListedClashAt S C s

-- Every successor of a listed state is listed: of s by the command k, and of all.
abbrev pub SuccessorsListedAt : FairSystem → Certificate → ℕ → ℕ → Type 0
SuccessorsListedAt S C s k = (t : ℕ) → Listed C s → S.steps.next s k ≡ Some t → Listed C t

abbrev pub SuccessorsListed : FairSystem → Certificate → Type 0
SuccessorsListed S C = (s k : ℕ) → SuccessorsListedAt S C s k

-- The rows of the process p are exactly the listed states where p waits: at s, and everywhere.
abbrev pub RowsExactAt : FairSystem → Certificate → ℕ → ℕ → Type 0
RowsExactAt S C p s = HasRow C p s ↔ (Listed C s × Waits S.steps p s)

abbrev pub RowsExact : FairSystem → Certificate → ℕ → Type 0
RowsExact S C p = (s : ℕ) → RowsExactAt S C p s

-- The class of a row of p is enabled at its state: at s, and everywhere.
abbrev pub ClassesEnabledAt : FairSystem → Certificate → ℕ → ℕ → Type 0
ClassesEnabledAt S C p s = (row : Row (List ℕ)) → RowAt C p s row → ClassEnabled S s row.class

abbrev pub ClassesEnabled : FairSystem → Certificate → ℕ → Type 0
ClassesEnabled S C p = (s : ℕ) → ClassesEnabledAt S C p s

-- The process p has a row at t to which the rank rule lets the command k lead from `row`: there the rank is below that
-- of `row`; or it is the same, both rows name one class, and k is not in that class.
abbrev pub FallsTo : Kind → FairSystem → Certificate → ℕ → Row (List ℕ) → ℕ → ℕ → Type 0
FallsTo K S C p row k t = (after : Row (List ℕ)) × RowAt C p t after × Falls K row after (S.class k ≡ Some row.class)

-- So it is for a row of p at s and the command k, if that leads to a t where p still waits; and for all of them.
abbrev pub RanksFallAt : Kind → FairSystem → Certificate → ℕ → ℕ → ℕ → Type 0
RanksFallAt K S C p s k =
    (row : Row (List ℕ)) (t : ℕ) →
    RowAt C p s row → S.steps.next s k ≡ Some t → Waits S.steps p t → FallsTo K S C p row k t

abbrev pub RanksFall : Kind → FairSystem → Certificate → ℕ → Type 0
RanksFall K S C p = (s k : ℕ) → RanksFallAt K S C p s k

-- The certificate, whose ranks are of the kind K, meets the rule.
pub record MeetsRule (K : Kind) (S : FairSystem) (C : Certificate) : Type 0 where
  pub start_listed : StartListed S C
  pub no_listed_clash : NoListedClash S C
  pub successors_listed : SuccessorsListed S C
  pub rows_exact : (p : ℕ) → p < S.steps.processes → RowsExact S C p
  pub classes_enabled : (p : ℕ) → p < S.steps.processes → ClassesEnabled S C p
  pub ranks_fall : (p : ℕ) → p < S.steps.processes → RanksFall K S C p
