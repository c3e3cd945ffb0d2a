use Rattle.std.proofs.Common.{◌≡◌, ◌^◌, ◌<◌}
use Rattle.system.specs.Transitions.{holders_below}
use Rattle.system.proofs.questions.holder_mask.Given as goal

abbrev pub invariant-loop-p : goal.invariant-loop-p
invariant-loop-p g l = (l.mask < 2 ^ l.p) × (l.mask ≡ holders_below (g.S.System.meaning l.system).steps l.state l.p)
