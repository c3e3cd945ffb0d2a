use Rattle.std.proofs.Common.{◌≡◌, ◌≤◌, drop}
use Rattle.postfix.specs.Decoding.{goes_on}
use Rattle.postfix.proofs.read.Given as goal

abbrev pub invariant-loop-item : goal.invariant-loop-item
invariant-loop-item l = (l.read.1.0 ≤ 32) × (l.read.0 ≤ l.read.1.0) × (goes_on l.variables (drop l.item-index l.items) l.read.0 l.read.1.0 ≡ goes_on l.variables l.items 0 0)
