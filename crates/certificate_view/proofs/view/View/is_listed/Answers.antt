use Rattle.std.proofs.Common.{ℕ, ◌+◌, ◌*◌, ◌≤◌, length, sym, subst, arith}
use Rattle.certificate_theory.specs.Lists.{Ascends}
use Rattle.certificate_view.proofs.Rows.{view_listed, found_decides}
use Rattle.certificate_view.proofs.view.View.is_listed.Goals as goal

pub invariant_of-listed : goal.invariant_of-listed
invariant_of-listed c =
    let bs = c.args.self.now.bytes.now in
    let l = view_listed c.args.self.now in
    let e = sym c.number.ensures in
    record {
      wide = omega arith;
      within = subst (λ (m : ℕ). 5 + 4 * m ≤ length bs) e l.within;
      ascends = subst (λ (m : ℕ). Ascends bs 5 4 m) e l.ascend;
    }

pub returns : goal.returns
returns c = found_decides c.args.self.now c.args.state c.number.result c.find.result c.is_some.result c.number.ensures c.is_some.ensures c.find.ensures
