use Rattle.std.proofs.Common.{ℕ, ◌+◌, ◌-◌, ◌/◌, ◌<◌, arith}
use Rattle.certificate_theory.specs.Lists.{state_of}
use Rattle.certificate_view.proofs.Halving.{all_below, all_above}
use Rattle.certificate_view.proofs.entries.Entries.find.Goals as goal

pub loop-low-preserved-then-state-wanted-2 : goal.loop-low-preserved-then-state-wanted-2
loop-low-preserved-then-state-wanted-2 c =
    let s = c.args.self.now in
    let m : ℕ = c.loop-low.low + (c.loop-low.high - c.loop-low.low) / 2 in
    let i = c.loop-low.invariant in
    let e = c.state-state.ensures in
    let l : state_of s.bytes.now s.at s.width m < c.args.wanted = omega arith in
    (omega arith, i.1, all_below s.bytes.now s.at s.width s.count s.ascends m c.args.wanted (omega arith) l, i.3)

pub loop-low-preserved : goal.loop-low-preserved
loop-low-preserved c =
    let s = c.args.self.now in
    let m : ℕ = c.loop-low.low + (c.loop-low.high - c.loop-low.low) / 2 in
    let i = c.loop-low.invariant in
    let e = c.state-state.ensures in
    let n = c.if-state-wanted.false in
    let l : c.args.wanted < state_of s.bytes.now s.at s.width m = grind arith in
    (omega arith, omega arith, i.2, all_above s.bytes.now s.at s.width s.count s.ascends m c.args.wanted (omega arith) l)
