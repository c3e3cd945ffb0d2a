use Rattle.certificate_theory.specs.declared.clause.Clause.TheVariants.{StartListed, NoListedClash, SuccessorsListed, RowsExact, ClassesEnabled, RanksFall}
use Rattle.certificate_view.specs.Held.{certificate_of}
use Rattle.certificate_check.proofs.Arms.{in_clause}
use Rattle.certificate_check.proofs.judging.Judging.failure_at.Goals as goal

pub returns-in-StartListed : goal.returns-in-StartListed
returns-in-StartListed g c =
    in_clause g.R.Rank.kind (g.S.System.meaning c.args.self.now.system.now) (certificate_of c.args.self.now.view) c.args.state c.args.limit c.start_failure.result
    c.args.clause StartListed c.in-StartListed.is c.start_failure.ensures

pub returns-in-NoListedClash : goal.returns-in-NoListedClash
returns-in-NoListedClash g c =
    in_clause g.R.Rank.kind (g.S.System.meaning c.args.self.now.system.now) (certificate_of c.args.self.now.view) c.args.state c.args.limit c.clash_failure.result
    c.args.clause NoListedClash c.in-NoListedClash.is c.clash_failure.ensures

pub returns-in-SuccessorsListed : goal.returns-in-SuccessorsListed
returns-in-SuccessorsListed g c =
    in_clause g.R.Rank.kind (g.S.System.meaning c.args.self.now.system.now) (certificate_of c.args.self.now.view) c.args.state c.args.limit c.successor_failure.result
    c.args.clause SuccessorsListed c.in-SuccessorsListed.is c.successor_failure.ensures

pub returns-in-RowsExact : goal.returns-in-RowsExact
returns-in-RowsExact g c =
    in_clause g.R.Rank.kind (g.S.System.meaning c.args.self.now.system.now) (certificate_of c.args.self.now.view) c.args.state c.args.limit c.rows_failure.result
    c.args.clause RowsExact c.in-RowsExact.is c.rows_failure.ensures

pub returns-in-ClassesEnabled : goal.returns-in-ClassesEnabled
returns-in-ClassesEnabled g c =
    in_clause g.R.Rank.kind (g.S.System.meaning c.args.self.now.system.now) (certificate_of c.args.self.now.view) c.args.state c.args.limit c.class_failure.result
    c.args.clause ClassesEnabled c.in-ClassesEnabled.is c.class_failure.ensures

pub returns-in-RanksFall : goal.returns-in-RanksFall
returns-in-RanksFall g c =
    in_clause g.R.Rank.kind (g.S.System.meaning c.args.self.now.system.now) (certificate_of c.args.self.now.view) c.args.state c.args.limit c.rank_failure.result
    c.args.clause RanksFall c.in-RanksFall.is c.rank_failure.ensures
