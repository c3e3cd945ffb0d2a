use Rattle.std.proofs.Common.{ℕ, ◌<◌}
use Rattle.rank_rule.specs.Rule.{RanksFallAt}
use Rattle.certificate_view.specs.Held.{certificate_of}
use Rattle.certificate_check.proofs.judging.Judging.rank_failure.Given as goal

abbrev pub invariant-loop-process : goal.invariant-loop-process
invariant-loop-process g l =
    (q : ℕ) → q < l.process → (k : ℕ) → RanksFallAt g.R.Rank.kind (g.S.System.meaning l.self.system.now) (certificate_of l.self.view) q l.state k
