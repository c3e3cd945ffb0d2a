use Rattle.std.proofs.Common.{◌≡◌, ℕ}
use Rattle.system.specs.Masks.{bit}
use Rattle.system.specs.Tests.{some_below, enables}
use Rattle.class_set.proofs.enabled_classes.Given as goal

abbrev pub invariant-loop-command : goal.invariant-loop-command
invariant-loop-command g l = (j : ℕ) → bit l.enabled.bits j ≡ some_below (enables (g.S.System.meaning l.system) l.state j) l.command
