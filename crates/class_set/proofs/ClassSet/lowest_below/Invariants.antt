use Rattle.std.proofs.Common.{◌≡◌, ℕ, ◌<◌, false}
use Rattle.system.specs.Masks.{bit}
use Rattle.class_set.proofs.ClassSet.lowest_below.Given as goal

abbrev pub invariant-loop-class : goal.invariant-loop-class
invariant-loop-class l = (k : ℕ) → k < l.class → bit l.self.bits k ≡ false
