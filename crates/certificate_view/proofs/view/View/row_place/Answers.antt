use Rattle.std.proofs.Common.{ℕ, ◌+◌, ◌*◌, ◌≤◌, length, get_or, Some, sym, subst, arith, rules}
use Rattle.certificate_theory.specs.Lists.{Ascends}
use Rattle.certificate_theory.proofs.Finds.{no_process}
use Rattle.certificate_view.specs.Held.{RowPlace}
use Rattle.certificate_view.proofs.Rows.{view_list, view_count, view_row, view_no_row}
use Rattle.certificate_view.proofs.view.View.row_place.Goals as goal

pub returns-then-process-self : goal.returns-then-process-self
returns-then-process-self c = no_process c.args.self.now.limits c.args.self.now.bytes.now c.args.process c.args.state c.if-process-self.true

pub number-requires : goal.number-requires
number-requires c = view_count c.args.self.now c.args.process c.if-process-self.false

pub overflow_add-rows : goal.overflow_add-rows
overflow_add-rows c = let h = view_count c.args.self.now c.args.process c.if-process-self.false in search rules

pub invariant_of-rows : goal.invariant_of-rows
invariant_of-rows c =
    let v = c.args.self.now in
    let bs = v.bytes.now in
    let at = get_or v.starts c.args.process 0 in
    let w = 5 + 4 * v.limits.numbers in
    let l = view_list v c.args.process c.if-process-self.false in
    let e = sym c.number.ensures in
    record {
      wide = omega arith;
      within = subst (λ (m : ℕ). (at + 4) + w * m ≤ length bs) e l.within;
      ascends = subst (λ (m : ℕ). Ascends bs (at + 4) w m) e l.ascend;
    }

pub returns-in_err-i : goal.returns-in_err-i
returns-in_err-i c =
    let v = c.args.self.now in
    subst (RowPlace v c.args.process c.args.state) (sym c.from_residual.ensures)
    (view_no_row v c.args.process c.if-process-self.false c.args.state c.number.result c.number.ensures c.in_err-i.ensures)

pub returns : goal.returns
returns c =
    let v = c.args.self.now in
    subst (λ (x : ℕ). RowPlace v c.args.process c.args.state (Some x)) (sym c.place.ensures)
    (view_row v c.args.process c.if-process-self.false c.args.state c.number.result c.in_ok-i.i c.number.ensures c.in_ok-i.ensures)
