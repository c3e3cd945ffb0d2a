use Rattle.std.proofs.Common.{◌≡◌, ◌+◌, ◌-◌, ◌*◌}
use Rattle.certificate_theory.specs.Fields.{rank_fields}
use Rattle.certificate_read.specs.Moves.{Moved, fault_at}
use Rattle.certificate_read.proofs.cursor.Cursor.rank.Given as goal

abbrev pub invariant-loop-j : goal.invariant-loop-j
invariant-loop-j l = record {
  count : l._j-end ≡ l.fn.self.limits.numbers;
  moved : Moved l.fn.self l.self (l.fn.self.at + 4 * l._j);
  left : fault_at l.self (rank_fields (l.fn.self.limits.numbers - l._j)) ≡ fault_at l.fn.self (rank_fields l.fn.self.limits.numbers);
}
