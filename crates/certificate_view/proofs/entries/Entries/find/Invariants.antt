use Rattle.std.proofs.Common.{ℕ, ◌-◌, ◌<◌, ◌≤◌}
use Rattle.certificate_theory.specs.Lists.{state_of}
use Rattle.certificate_view.proofs.entries.Entries.find.Given as goal

abbrev pub invariant-loop-low : goal.invariant-loop-low
invariant-loop-low l =
    (l.low ≤ l.high) × (l.high ≤ l.self.count)
    × ((i : ℕ) → i < l.low → state_of l.self.bytes.now l.self.at l.self.width i < l.wanted)
    × ((i : ℕ) → l.high ≤ i → i < l.self.count → l.wanted < state_of l.self.bytes.now l.self.at l.self.width i)

abbrev pub decreases-loop-low : goal.decreases-loop-low
decreases-loop-low l = l.high - l.low
