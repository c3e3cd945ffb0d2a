use Rattle.rank_rule.proofs.Soundness.{rows_keep_out_lockout_lem}
use Rattle.rank_rule.proofs.rows_keep_out_lockout.Goals as goal

pub returns : goal.returns
returns g c = rows_keep_out_lockout_lem g.R.Rank.kind g.met.R.Rank.lawful
