-- What the rank rule shows. Assumes nothing.
use Rattle.std.specs.Prelude.{ℕ}
use Rattle.system.specs.Runs.{Run, LeavesTrying}
use Rattle.system.specs.Justice.{FairSystem, Lawful, Just, CorrectLock}
use Rattle.lasso.specs.BadRuns.{BadRun}
use Rattle.rank.specs.Kinds.{Kind}
use Rattle.rank.specs.Laws.{LawfulKind}
use Rattle.rank_rule.specs.Certificate.{Certificate}
use Rattle.rank_rule.specs.Rule.{StartListed, SuccessorsListed, RowsExact, ClassesEnabled, RanksFall, MeetsRule}

-- A certificate of this kind that meets the rule shows the lock correct.
abbrev pub CertifiedIsCorrect : Kind → Type 0
CertifiedIsCorrect K = (S : FairSystem) → Lawful S → (C : Certificate) → MeetsRule K S C → CorrectLock S

-- And so for every kind of rank that has the laws.
abbrev pub RankRuleIsSound : Type 0
RankRuleIsSound = (K : Kind) → LawfulKind K → CertifiedIsCorrect K

-- The rows of one process alone keep every just run from leaving it trying for ever.
abbrev pub RowsKeepOutLockout : Kind → Type 0
RowsKeepOutLockout K =
    (S : FairSystem) → Lawful S → (C : Certificate) → StartListed S C → SuccessorsListed S C →
    (p : ℕ) → RowsExact S C p → ClassesEnabled S C p → RanksFall K S C p →
    (r : Run S.steps) → Just S r → ¬ LeavesTrying r p

-- A certificate that meets the rule and a bad run are never both there for one system.
abbrev pub NeverBoth : Type 0
NeverBoth = (K : Kind) → LawfulKind K → (S : FairSystem) → Lawful S → (C : Certificate) → MeetsRule K S C → ¬ BadRun S
