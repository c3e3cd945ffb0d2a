use Rattle.std.proofs.Common.{◌≡◌, ◌<◌, ◌≢◌, length, get_or, set, None, sym, ◌∙◌, inl, inr, arith, length-set, get_or-set_other, get_or-set_same, below_more}
use Rattle.certificate_check.proofs.Commands.{below_or_past, no_successor, none_at, sixty_four}
use Rattle.certificate_check.proofs.ranks.successors_of.Goals as goal

pub loop-command-init : goal.loop-command-init
loop-command-init g c = (sixty_four, (λ k h. absurd (let f : ⊥ = omega arith in f)), (λ k h. none_at 64 k))

pub loop-command-preserved : goal.loop-command-preserved
loop-command-preserved g c =
    let i = c.loop-command.invariant in
    let k₀ = c.loop-command.command in
    let n = c.commands-command-end.ensures in
    let few = (g.met.S.System.lawful c.args.system.now).steps.few_commands in
    let long = i.0 in
    let lt : k₀ < length c.loop-command.successors = omega (arith, c.loop-command-test.true) in (
      length-set c.loop-command.successors k₀ c.successor.result ∙ long,
      below_more (λ k. get_or (set c.loop-command.successors k₀ c.successor.result) k None ≡ (g.S.System.meaning c.args.system.now).steps.next c.args.state k) k₀
          (λ k h. let ne : k ≢ k₀ = omega arith in get_or-set_other c.loop-command.successors k₀ k c.successor.result None ne ∙ i.1 k h)
          (get_or-set_same c.loop-command.successors k₀ c.successor.result None lt ∙ c.successor.ensures),
      (λ k h. let ne : k ≢ k₀ = omega arith in get_or-set_other c.loop-command.successors k₀ k c.successor.result None ne ∙ i.2 k (omega arith)),
    )

pub returns : goal.returns
returns g c = λ k.
    let m = g.S.System.meaning c.args.system.now in
    let n = c.commands-command-end.ensures in
    let last = c.loop-command-test.false in
    let kept = c.loop-command.auto.command-end in
    elim (below_or_past k c.loop-command.command) [
      | inl h ↦ c.loop-command.invariant.1 k h
      | inr h ↦ c.loop-command.invariant.2 k h ∙ sym (no_successor m (g.met.S.System.lawful c.args.system.now) c.args.state k (omega arith))
    ]
