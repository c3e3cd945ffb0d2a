use Rattle.std.proofs.Common.{◌≡◌}
use Rattle.certificate_theory.specs.Judging.{HoldsAt}
use Rattle.certificate_theory.specs.Points.{LeastPoint}
use Rattle.certificate_theory.proofs.Points.{limit_after}
use Rattle.certificate_view.specs.Held.{certificate_of}
use Rattle.certificate_check.proofs.judging.Judging.least_failure.Given as goal

abbrev pub invariant-loop-state : goal.invariant-loop-state
invariant-loop-state g l =
    let m = g.S.System.meaning l.self.system.now in
    (l.limit ≡ limit_after m.steps.processes l.found)
    × LeastPoint (HoldsAt g.R.Rank.kind m (certificate_of l.self.view) l.clause) m.steps.processes l.state l.found
