use Rattle.std.proofs.Common.{◌≡◌, ℕ, refl, subst, arith, below_more}
use Rattle.rank_rule.specs.Certificate.{Listed}
use Rattle.rank_rule.specs.Rule.{SuccessorsListedAt}
use Rattle.certificate_view.specs.Held.{certificate_of}
use Rattle.certificate_check.proofs.judging.Judging.successor_failure.Goals as goal
use Rattle.certificate_check.proofs.judging.Judging.successor_failure.Goals.{in-Some+else-not-is_listed-2, in_default}

pub loop-command-preserved : goal.loop-command-preserved
loop-command-preserved g c =
    let C = certificate_of c.args.self.now.view in
    let k = c.loop-command.command in
    below_more (SuccessorsListedAt (g.S.System.meaning c.args.self.now.system.now) C c.args.state) k c.loop-command.invariant
    (λ t listed e. elim c.match-successor.branch [
      | in-Some+else-not-is_listed-2 w ↦ (let same : w.in-Some.to ≡ t = cc (w.in-Some.ensures, e) in
          subst (Listed C) same (w.if-not-is_listed-2.ensures.0 refl))
      | in_default w ↦ (let z : ◌≡◌ {A = ℕ} 0 1 = cc (w.in_default.ensures, e) in absurd (let f : ⊥ = omega arith in f))
    ])
