use Rattle.std.proofs.Common.{◌≡◌, false}
use Rattle.system.specs.Tests.{some_below, enables}
use Rattle.system.proofs.questions.class_enabled.Given as goal

abbrev pub invariant-loop-k : goal.invariant-loop-k
invariant-loop-k g l = some_below (enables (g.S.System.meaning l.system) l.state l.class) l.k ≡ false
