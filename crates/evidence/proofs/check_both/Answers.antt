use Rattle.evidence.proofs.Apart.{apart}
use Rattle.evidence.proofs.check_both.Goals as goal

pub returns : goal.returns
returns g c = record {
  certified = c.check_certificate.ensures.answered;
  charged = c.check_run.ensures.same;
  never_both = λ accepted.
      apart (g.S.System.meaning c.args.system.now) (c.check_certificate.ensures.correct accepted) c.args.run.now c.check_run.result c.check_run.ensures.right;
}
