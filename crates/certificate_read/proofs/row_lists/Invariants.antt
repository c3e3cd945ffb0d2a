use Rattle.std.proofs.Common.{◌≡◌, ℕ, ◌-◌, ◌<◌, length, get_or}
use Rattle.certificate_theory.specs.Fields.{row_lists}
use Rattle.certificate_theory.specs.Content.{list_start}
use Rattle.certificate_read.specs.Moves.{Moved, fault_at}
use Rattle.certificate_read.proofs.row_lists.Given as goal

abbrev pub invariant-loop-start : goal.invariant-loop-start
invariant-loop-start l =
    let o = l.fn.cursor in
    let n = o.limits.numbers in
    let m = o.limits.processes in
    record {
      count : length l.start-items ≡ m;
      begin : (q : ℕ) → q < l.start-index → get_or l.start-items q 0 ≡ list_start n o.bytes.now o.at q;
      moved : Moved o l.cursor (list_start n o.bytes.now o.at l.start-index);
      left : fault_at l.cursor (row_lists n l.cursor.bytes.now l.cursor.at (m - l.start-index)) ≡ fault_at o (row_lists n o.bytes.now o.at m);
    }
