use Rattle.std.proofs.Common.{◌≡◌, ℕ, ◌<◌, ◌≤◌, length, get_or, None}
use Rattle.certificate_check.proofs.ranks.successors_of.Given as goal

abbrev pub invariant-loop-command : goal.invariant-loop-command
invariant-loop-command g l =
    (length l.successors ≡ 64)
    × ((k : ℕ) → k < l.command → get_or l.successors k None ≡ (g.S.System.meaning l.system).steps.next l.state k)
    × ((k : ℕ) → l.command ≤ k → get_or l.successors k None ≡ None)
