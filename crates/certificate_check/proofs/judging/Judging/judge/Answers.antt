use Rattle.certificate_theory.proofs.Scans.{whole_reads}
use Rattle.certificate_theory.proofs.Orderly.{none_first, one_more, clause_holds, clause_refused, rule_met}
use Rattle.certificate_view.specs.Held.{certificate_of}
use Rattle.certificate_check.proofs.judging.Judging.judge.Goals as goal

pub loop-clause-init : goal.loop-clause-init
loop-clause-init g c = none_first g.R.Rank.kind (g.S.System.meaning c.args.self.now.system.now) (certificate_of c.args.self.now.view)

pub returns-in-Some : goal.returns-in-Some
returns-in-Some g c =
    let v = c.args.self.now.view in
    clause_refused g.R.Rank.kind (g.S.System.meaning c.args.self.now.system.now) (g.met.S.System.lawful c.args.self.now.system.now) v.bytes.now v.limits c.args.self.now.limits
    (whole_reads v.limits v.bytes.now v.reads) c.loop-clause.clause-index _ c.in-Some.point c.loop-clause-test.true c.loop-clause.invariant
    c.in-Some.ensures c.refusal_of.result c.refusal_of.ensures

pub loop-clause-preserved : goal.loop-clause-preserved
loop-clause-preserved g c =
    let v = c.args.self.now.view in
    one_more g.R.Rank.kind (g.S.System.meaning c.args.self.now.system.now) (certificate_of v) c.loop-clause.clause-index _ c.loop-clause-test.true c.loop-clause.invariant
    (clause_holds g.R.Rank.kind (g.S.System.meaning c.args.self.now.system.now) (g.met.S.System.lawful c.args.self.now.system.now) v.bytes.now v.limits c.args.self.now.limits
    (whole_reads v.limits v.bytes.now v.reads) _ c.in_default.ensures)

pub returns : goal.returns
returns g c =
    let v = c.args.self.now.view in
    rule_met g.R.Rank.kind (g.S.System.meaning c.args.self.now.system.now) (g.met.S.System.lawful c.args.self.now.system.now) v.bytes.now v.limits c.args.self.now.limits
    (whole_reads v.limits v.bytes.now v.reads) c.loop-clause.clause-index c.loop-clause-test.false c.loop-clause.invariant
