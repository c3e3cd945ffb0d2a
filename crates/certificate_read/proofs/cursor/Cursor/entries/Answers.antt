use Rattle.std.proofs.Common.{◌≡◌, ◌+◌, ◌-◌, ◌*◌, ◌∷◌, Some, None, sym, ap, ◌∙◌, subst, mul-suc, add-one, arith}
use Rattle.std.proofs.lemmas.Result.{err_from_is_err_and}
use Rattle.byte_numbers.specs.Numbers.{number_at}
use Rattle.certificate_theory.specs.declared.limits.Limits.{Limits}
use Rattle.certificate_theory.specs.Fields.{state, widths, entries}
use Rattle.certificate_theory.proofs.Scans.{first_of_some}
use Rattle.certificate_theory.proofs.Loops.{entries_turn}
use Rattle.certificate_read.specs.Moves.{Moved, fault_at}
use Rattle.certificate_read.proofs.Moving.{moved_on, fault_behind}
use Rattle.certificate_read.proofs.cursor.Cursor.entries.Goals as goal

pub returns-in_err-entry-clause-told : goal.returns-in_err-entry-clause-told
returns-in_err-entry-clause-told g c =
    let p = err_from_is_err_and c.from_residual.result c.from_residual.ensures.1 in
    let o = c.args.self.now in
    let s = c.loop-i.self in
    let i = c.loop-i.invariant in
    let tail = g.E.Entry.tail o.limits.numbers in
    let same = i.moved.same_limits in
    let told : Some c.in_err-entry.field-0.0 ≡ fault_at s (state c.loop-i.before ∷ tail) = c.in_err-entry.ensures.told ∙ ap (λ (L : Limits). fault_at s (state c.loop-i.before ∷ g.E.Entry.tail L.numbers)) same in
    rw (p.1, p.2) (sym (first_of_some _ _ _ (sym told)) ∙ sym (entries_turn s.limits s.bytes.now tail c.args.count c.loop-i._i s.at c.loop-i.before c.loop-i-test.true) ∙ i.left)

pub loop-i-preserved : goal.loop-i-preserved
loop-i-preserved g c =
    let o = c.args.self.now in
    let s = c.loop-i.self in
    let t = c.entry.new.self in
    let i = c.loop-i.invariant in
    let e = c.in_ok-entry.ensures in
    let k = c.loop-i._i in
    let rest = c.args.count - (k + 1) in
    let tail = g.E.Entry.tail o.limits.numbers in
    let w = 4 + widths tail in
    let same = i.moved.same_limits in
    let m : Moved s t (s.at + w) = subst (λ (L : Limits). Moved s t (s.at + (4 + widths (g.E.Entry.tail L.numbers)))) same e.moves in
    let told : None ≡ fault_at s (state c.loop-i.before ∷ tail) = e.told ∙ ap (λ (L : Limits). fault_at s (state c.loop-i.before ∷ g.E.Entry.tail L.numbers)) same in
    let on = moved_on o s t (o.at + w * k) (s.at + w) i.moved m in
    let p = i.moved.place in
    let q = on.place in
    let long = mul-suc w k in
    let behind = entries s.bytes.now (s.at + w) tail (Some (number_at s.bytes.now s.at)) rest in
    let f = fault_behind s t (s.at + w) m behind (fault_at s (state c.loop-i.before ∷ tail)) _ told (entries_turn s.limits s.bytes.now tail c.args.count k s.at c.loop-i.before c.loop-i-test.true) in
    let b = m.same_bytes in
    let a = m.place in
    let r = e.read in
    let there : behind ≡ entries t.bytes.now t.at tail (Some c.in_ok-entry.field-0) rest = cc in
    record {
      moved = record { same_bytes = on.same_bytes; same_limits = on.same_limits; place = (let z : t.at ≡ o.at + w * (k + 1) = rw add-one (omega arith) in z) };
      left = sym (ap (fault_at t) there) ∙ sym f ∙ i.left;
    }
