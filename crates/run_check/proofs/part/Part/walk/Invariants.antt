use Rattle.std.proofs.Common.{◌≡◌, ◌+◌, drop}
use Rattle.run_rules.specs.Judging.{walked}
use Rattle.run_check.proofs.part.Part.walk.Given as goal

abbrev pub invariant-loop-i : goal.invariant-loop-i
invariant-loop-i g l =
    let m = (g.S.System.meaning l.self.system.now).steps in
    walked m l.state (l.first + l.i) (drop l.i l.self.steps.now) ≡ walked m l.self.from l.first l.self.steps.now
