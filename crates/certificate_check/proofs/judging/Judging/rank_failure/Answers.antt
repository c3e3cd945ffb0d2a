use Rattle.std.proofs.Common.{ℕ, below_more}
use Rattle.rank_rule.specs.Rule.{RanksFallAt}
use Rattle.certificate_view.specs.Held.{certificate_of}
use Rattle.certificate_check.proofs.Commands.{spot_found, process_holds}
use Rattle.certificate_check.proofs.judging.Judging.rank_failure.Goals as goal

pub returns-in-Some : goal.returns-in-Some
returns-in-Some g c =
    spot_found g.R.Rank.kind (g.S.System.meaning c.args.self.now.system.now) (g.met.S.System.lawful c.args.self.now.system.now) (certificate_of c.args.self.now.view) c.args.state c.args.limit
    c.successors_of-successors.result c.successors_of-successors.ensures c.loop-process.process c.in-Some.command c.loop-process-test.true
    c.in-Some.ensures c.loop-process.invariant

pub loop-process-preserved : goal.loop-process-preserved
loop-process-preserved g c =
    below_more (λ q. (k : ℕ) → RanksFallAt g.R.Rank.kind (g.S.System.meaning c.args.self.now.system.now) (certificate_of c.args.self.now.view) q c.args.state k)
    c.loop-process.process c.loop-process.invariant
    (process_holds g.R.Rank.kind (g.S.System.meaning c.args.self.now.system.now) (g.met.S.System.lawful c.args.self.now.system.now) (certificate_of c.args.self.now.view) c.args.state c.args.limit
    c.successors_of-successors.result c.successors_of-successors.ensures c.loop-process.process c.in_default.ensures)
