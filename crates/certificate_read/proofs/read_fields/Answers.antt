use Rattle.std.proofs.Common.{Some, sym, ap, ◌∙◌, arith}
use Rattle.std.proofs.lemmas.Result.{err_from_is_err_and}
use Rattle.certificate_theory.specs.declared.refusal.Refusal.TheVariants.{Length}
use Rattle.certificate_theory.proofs.Loops.{at_listed, at_rows, at_surplus, at_end}
use Rattle.certificate_read.proofs.Moving.{rows_there, rows_end, kind_there}
use Rattle.certificate_read.proofs.read_fields.Goals as goal

pub returns-in_err-list-clause-told : goal.returns-in_err-list-clause-told
returns-in_err-list-clause-told c =
    let p = err_from_is_err_and c.from_residual-in_err-list.result c.from_residual-in_err-list.ensures.1 in
    let L = c.args.limits in
    let bs = c.args.bytes.now in
    let kind = kind_there L bs c.first.result c.in_ok-kind.field-0 c.in_ok-kind.ensures.ok_part c.first.ensures.value c.if-kind-limits.false in
    rw (p.1, p.2) (sym (at_listed L bs kind _ (sym c.in_err-list.ensures.told)))

pub returns-in_err-starts-clause-told : goal.returns-in_err-starts-clause-told
returns-in_err-starts-clause-told c =
    let p = err_from_is_err_and c.from_residual-in_err-starts.result c.from_residual-in_err-starts.ensures.1 in
    let L = c.args.limits in
    let bs = c.args.bytes.now in
    let kind = kind_there L bs c.first.result c.in_ok-kind.field-0 c.in_ok-kind.ensures.ok_part c.first.ensures.value c.if-kind-limits.false in
    let listed = c.in_ok-list.ensures in
    let rows = rows_there _ _ _ listed.moves in
    rw (p.1, p.2) (sym (at_rows L bs kind (sym listed.told) _ (sym (c.in_err-starts.ensures.told ∙ rows))))

pub returns-then-cursor-bytes-clause-told : goal.returns-then-cursor-bytes-clause-told
returns-then-cursor-bytes-clause-told c =
    let L = c.args.limits in
    let bs = c.args.bytes.now in
    let kind = kind_there L bs c.first.result c.in_ok-kind.field-0 c.in_ok-kind.ensures.ok_part c.first.ensures.value c.if-kind-limits.false in
    let listed = c.in_ok-list.ensures in
    let starts = c.in_ok-starts.ensures in
    let rows = rows_there _ _ _ listed.moves in
    let end = rows_end _ _ _ _ listed.moves starts.moves in
    let h = c.if-cursor-bytes.true in
    ap (λ n. Some (Length n)) end ∙ sym (at_surplus L bs kind (sym listed.told) (sym (starts.told ∙ rows)) (omega arith))

pub returns-clause-told : goal.returns-clause-told
returns-clause-told c =
    let L = c.args.limits in
    let bs = c.args.bytes.now in
    let kind = kind_there L bs c.first.result c.in_ok-kind.field-0 c.in_ok-kind.ensures.ok_part c.first.ensures.value c.if-kind-limits.false in
    let listed = c.in_ok-list.ensures in
    let starts = c.in_ok-starts.ensures in
    let rows = rows_there _ _ _ listed.moves in
    let end = rows_end _ _ _ _ listed.moves starts.moves in
    let h = c.if-cursor-bytes.false in
    sym (at_end L bs kind (sym listed.told) (sym (starts.told ∙ rows)) (omega arith))
