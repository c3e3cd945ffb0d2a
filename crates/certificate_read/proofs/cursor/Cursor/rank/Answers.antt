use Rattle.std.proofs.Common.{◌+◌, ◌-◌, ◌*◌, sym, ◌∙◌, arith}
use Rattle.certificate_theory.specs.Fields.{number, rank_fields}
use Rattle.certificate_theory.specs.Reading.{field_fault}
use Rattle.certificate_theory.proofs.Loops.{numbers_turn}
use Rattle.certificate_read.specs.Moves.{Moved, fault_at}
use Rattle.certificate_read.proofs.Moving.{moved_on, fault_behind}
use Rattle.certificate_read.proofs.cursor.Cursor.rank.Goals as goal

pub loop-j-preserved : goal.loop-j-preserved
loop-j-preserved c =
    let o = c.args.self.now in
    let s = c.loop-j.self in
    let t = c.number.new.self in
    let j = c.loop-j._j in
    let n = o.limits.numbers in
    let i = c.loop-j.invariant in
    let e = c.in_ok-number.ensures in
    let m : Moved s t (s.at + 4) = e.moves in
    let w = moved_on o s t (o.at + 4 * j) (s.at + 4) i.moved m in
    let p = i.moved.place in
    let q = w.place in
    record {
      count = i.count;
      moved = record { same_bytes = w.same_bytes; same_limits = w.same_limits; place = omega arith };
      left = sym (fault_behind s t (s.at + 4) m (rank_fields (n - (j + 1))) (field_fault s.limits s.bytes.now s.at number) (fault_at s (rank_fields (n - j))) e.told
          (numbers_turn s.limits s.bytes.now n j s.at (omega (arith, c.loop-j-test.true)))) ∙ i.left;
    }
