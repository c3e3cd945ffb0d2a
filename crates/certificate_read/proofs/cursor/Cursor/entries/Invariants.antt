use Rattle.std.proofs.Common.{◌≡◌, ◌+◌, ◌-◌, ◌*◌, None}
use Rattle.certificate_theory.specs.Fields.{widths, entries}
use Rattle.certificate_read.specs.Moves.{Moved, fault_at}
use Rattle.certificate_read.proofs.cursor.Cursor.entries.Given as goal

abbrev pub invariant-loop-i : goal.invariant-loop-i
invariant-loop-i g l =
    let tail = g.E.Entry.tail l.fn.self.limits.numbers in
    record {
      moved : Moved l.fn.self l.self (l.fn.self.at + (4 + widths tail) * l._i);
      left : fault_at l.self (entries l.self.bytes.now l.self.at tail l.before (l.count - l._i)) ≡ fault_at l.fn.self (entries l.fn.self.bytes.now l.fn.self.at tail None l.count);
    }
