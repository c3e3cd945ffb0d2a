use Rattle.std.proofs.Common.{◌≡◌, ℕ, ◌+◌, Some, None, Option, sym, ◌∙◌, subst, arith}
use Rattle.certificate_theory.specs.declared.point.Point.{Point}
use Rattle.certificate_theory.specs.Judging.{HoldsAt}
use Rattle.certificate_theory.specs.Points.{LeastSpot, LeastPoint}
use Rattle.certificate_theory.proofs.Points.{limit_after, kept_point, new_point}
use Rattle.certificate_view.specs.Held.{certificate_of}
use Rattle.certificate_check.proofs.judging.Judging.least_failure.Goals as goal
use Rattle.certificate_check.proofs.judging.Judging.least_failure.Goals.{in-Some, in_default}

pub loop-state-init : goal.loop-state-init
loop-state-init g c = (c.processes-limit.ensures, λ p s k below h. absurd (let f : ⊥ = omega arith in f))

pub loop-state-preserved : goal.loop-state-preserved
loop-state-preserved g c =
    let m = g.S.System.meaning c.args.self.now.system.now in
    let H = HoldsAt g.R.Rank.kind m (certificate_of c.args.self.now.view) c.args.clause in
    let P = m.steps.processes in
    let n = c.loop-state.state in
    let i = c.loop-state.invariant in
    let Next : Option Point → Type 0 = λ f. (c.match-failure_at.limit ≡ limit_after P f) × LeastPoint H P (n + 1) f in
    elim c.match-failure_at.branch [
      | in-Some w ↦ subst Next (sym w.found-is) (
        w.limit-is,
        new_point H P n c.loop-state.found w.in-Some.spot i.1
            (subst (λ (x : ℕ). LeastSpot (λ p k. H p n k) x (Some w.in-Some.spot)) i.0 w.in-Some.ensures),
      )
      | in_default w ↦ subst Next (sym w.found-is) (
        w.limit-is ∙ i.0,
        kept_point H P n c.loop-state.found i.1
            (subst (λ (x : ℕ). LeastSpot (λ p k. H p n k) x None) i.0 w.in_default.ensures),
      )
    ]

pub returns : goal.returns
returns g c =
    let m = g.S.System.meaning c.args.self.now.system.now in
    let H = HoldsAt g.R.Rank.kind m (certificate_of c.args.self.now.view) c.args.clause in
    let e = c.states-state-end.ensures in
    let k = c.loop-state.auto.state-end in
    let all : c.loop-state.state ≡ m.steps.states = omega (arith, c.loop-state-test.false) in
    subst (λ (n : ℕ). LeastPoint H m.steps.processes n c.loop-state.found) all c.loop-state.invariant.1
