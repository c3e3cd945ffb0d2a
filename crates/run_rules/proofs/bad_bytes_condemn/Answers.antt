use Rattle.run_rules.proofs.Accepted.{bad_bytes_condemn_lem}
use Rattle.run_rules.proofs.bad_bytes_condemn.Goals as goal

pub returns : goal.returns
returns c = bad_bytes_condemn_lem
