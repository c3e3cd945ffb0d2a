use Rattle.certificate_theory.proofs.Orderly.{FirstHold}
use Rattle.certificate_view.specs.Held.{certificate_of}
use Rattle.certificate_check.proofs.judging.Judging.judge.Given as goal

abbrev pub invariant-loop-clause : goal.invariant-loop-clause
invariant-loop-clause g l = FirstHold g.R.Rank.kind (g.S.System.meaning l.self.system.now) (certificate_of l.self.view) l.clause-index
