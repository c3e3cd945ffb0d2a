use Rattle.std.proofs.Common.{rules}
use Rattle.certificate_view.proofs.Halving.{entry_within}
use Rattle.certificate_view.proofs.entries.Entries.place.Goals as goal

pub overflow_mul-result : goal.overflow_mul-result
overflow_mul-result c =
    let s = c.args.self.now in
    let e = entry_within s.width s.count c.args.i c.requires in
    let h = s.within in
    search rules

pub overflow_add-result : goal.overflow_add-result
overflow_add-result c =
    let s = c.args.self.now in
    let e = entry_within s.width s.count c.args.i c.requires in
    let h = s.within in
    search rules
