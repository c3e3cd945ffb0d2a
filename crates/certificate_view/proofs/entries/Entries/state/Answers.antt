use Rattle.std.proofs.Common.{arith}
use Rattle.certificate_view.proofs.Halving.{entry_within}
use Rattle.certificate_view.proofs.entries.Entries.state.Goals as goal

pub number-requires : goal.number-requires
number-requires c =
    let s = c.args.self.now in
    let e = entry_within s.width s.count c.args.i c.requires in
    let p = c.place.ensures in
    let h = s.within in
    let w = s.wide in
    omega arith
