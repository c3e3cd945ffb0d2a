use Rattle.std.proofs.Common.{◌≡◌, ℕ, suc, ◌+◌, ◌-◌, ◌*◌, ◌<◌, ◌≢◌, length, Some, None, sym, ap, ◌∙◌, subst, add-one, arith, length-set, get_or-set_other, get_or-set_same, below_more}
use Rattle.std.proofs.lemmas.Result.{err_from_is_err_and}
use Rattle.certificate_theory.specs.declared.limits.Limits.{Limits}
use Rattle.certificate_theory.specs.Fields.{widths, list_fields, list_end, row_tail, row_lists}
use Rattle.certificate_theory.specs.Content.{list_start}
use Rattle.certificate_theory.proofs.Entries.{widths_row}
use Rattle.certificate_theory.proofs.Scans.{first_of_some}
use Rattle.certificate_theory.proofs.Loops.{lists_turn}
use Rattle.certificate_read.specs.Moves.{Moved, fault_at}
use Rattle.certificate_read.proofs.Moving.{moved_on, fault_behind}
use Rattle.certificate_read.proofs.row_lists.Goals as goal

pub returns-in_err-list-clause-told : goal.returns-in_err-list-clause-told
returns-in_err-list-clause-told c =
    let p = err_from_is_err_and c.from_residual.result c.from_residual.ensures.1 in
    let o = c.args.cursor.now in
    let s = c.loop-start.cursor in
    let i = c.loop-start.invariant in
    let n = o.limits.numbers in
    let long = i.count in
    let early = c.loop-start-test.true in
    let below : c.loop-start.start-index < o.limits.processes = omega arith in
    let told : Some c.in_err-list.field-0.0 ≡ fault_at s (list_fields s.bytes.now s.at (row_tail n)) =
    c.in_err-list.ensures.told ∙ ap (λ (L : Limits). fault_at s (list_fields s.bytes.now s.at (row_tail L.numbers))) i.moved.same_limits in
    rw (p.1, p.2) (sym (first_of_some _ _ _ (sym told)) ∙ sym (lists_turn s.limits s.bytes.now n o.limits.processes c.loop-start.start-index s.at below) ∙ i.left)

pub loop-start-preserved : goal.loop-start-preserved
loop-start-preserved c =
    let o = c.args.cursor.now in
    let s = c.loop-start.cursor in
    let t = c.list.new.self in
    let i = c.loop-start.invariant in
    let e = c.in_ok-list.ensures in
    let p = c.loop-start.start-index in
    let n = o.limits.numbers in
    let v = 5 + 4 * n in
    let rest = o.limits.processes - (p + 1) in
    let long = i.count in
    let early = c.loop-start-test.true in
    let below : p < o.limits.processes = omega arith in
    let in_room : p < length c.loop-start.start-items = omega arith in
    let wide : 4 + widths (row_tail s.limits.numbers) ≡ v = widths_row s.limits.numbers ∙ ap (λ (L : Limits). 5 + 4 * L.numbers) i.moved.same_limits in
    let m : Moved s t (list_end s.bytes.now s.at v) = subst (λ (w : ℕ). Moved s t (list_end s.bytes.now s.at w)) wide e.moves in
    let told : None ≡ fault_at s (list_fields s.bytes.now s.at (row_tail n)) =
    e.told ∙ ap (λ (L : Limits). fault_at s (list_fields s.bytes.now s.at (row_tail L.numbers))) i.moved.same_limits in
    let next : list_end s.bytes.now s.at v ≡ list_start n o.bytes.now o.at (suc p) =
    ap (λ b. list_end b s.at v) i.moved.same_bytes ∙ ap (λ x. list_end o.bytes.now x v) i.moved.place in
    let on = moved_on o s t _ (list_end s.bytes.now s.at v) i.moved m in
    let behind = row_lists n s.bytes.now (list_end s.bytes.now s.at v) rest in
    let f = fault_behind s t (list_end s.bytes.now s.at v) m behind (fault_at s (list_fields s.bytes.now s.at (row_tail n))) _ told (lists_turn s.limits s.bytes.now n o.limits.processes p s.at below) in
    let there : behind ≡ row_lists n t.bytes.now t.at rest = ap (λ b. row_lists n b (list_end s.bytes.now s.at v) rest) (sym m.same_bytes) ∙ ap (λ x. row_lists n t.bytes.now x rest) (sym m.place) in
    record {
      count = length-set c.loop-start.start-items p s.at ∙ i.count;
      begin = below_more _ _
          (λ q h. let ne : q ≢ p = omega arith in rw get_or-set_other (i.begin q h))
          (rw get_or-set_same i.moved.place);
      moved = record { same_bytes = on.same_bytes; same_limits = on.same_limits; place = rw add-one (on.place ∙ next) };
      left = sym (ap (fault_at t) there) ∙ sym f ∙ i.left;
    }
