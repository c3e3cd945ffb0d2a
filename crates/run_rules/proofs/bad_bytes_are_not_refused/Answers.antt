use Rattle.run_rules.proofs.Accepted.{bad_bytes_are_not_refused_lem}
use Rattle.run_rules.proofs.bad_bytes_are_not_refused.Goals as goal

pub returns : goal.returns
returns c = bad_bytes_are_not_refused_lem
