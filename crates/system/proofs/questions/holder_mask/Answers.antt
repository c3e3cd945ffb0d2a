use Rattle.std.proofs.Common.{◌≡◌, ◌+◌, ◌^◌, ◌<◌, refl, ◌∙◌, arith, rules}
use Rattle.system.proofs.Holders.{or_place, doubled, holders_more, holder_bit_one, holder_bit_zero}
use Rattle.system.proofs.questions.holder_mask.Goals as goal
use Rattle.system.proofs.questions.holder_mask.Goals.{then-holds, else-holds}

pub loop-p-preserved : goal.loop-p-preserved
loop-p-preserved g c =
    let T = (g.S.System.meaning c.args.system.now).steps in
    let p = c.loop-p.p in
    let m = c.loop-p.mask in
    let d = doubled p in
    let more = holders_more T c.args.state p in
    let i = c.loop-p.invariant in
    let most = (g.met.S.System.lawful c.args.system.now).steps.few_processes in
    let n = c.processes-p-end.ensures in
    let lt : p < 8 = omega arith in
    elim c.if-holds.branch [
      | then-holds w ↦
          (let h : c.if-holds.mask ≡ 2 ^ p + m = w.mask-is ∙ or_place p m lt i.0 in
          let y = holder_bit_one (T.region c.args.state p) (w.if-holds.ensures.0 refl) in
          (omega arith, simp (more, y) (omega arith)))
      | else-holds w ↦
          (let n = holder_bit_zero (T.region c.args.state p) (λ e. let wrong = w.if-holds.ensures.1 e in search rules) in
          let h = w.mask-is in
          (omega arith, simp (more, n) (omega arith)))
    ]
