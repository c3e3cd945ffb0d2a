use Rattle.std.proofs.Common.{ℕ, ◌<◌}
use Rattle.rank_rule.specs.Rule.{SuccessorsListedAt}
use Rattle.certificate_view.specs.Held.{certificate_of}
use Rattle.certificate_check.proofs.judging.Judging.successor_failure.Given as goal

abbrev pub invariant-loop-command : goal.invariant-loop-command
invariant-loop-command g l =
    (k : ℕ) → k < l.command → SuccessorsListedAt (g.S.System.meaning l.self.system.now) (certificate_of l.self.view) l.state k
