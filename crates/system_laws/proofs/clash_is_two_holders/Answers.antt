use Rattle.system_laws.proofs.Holders.{clash_is_two_holders_lem}
use Rattle.system_laws.proofs.clash_is_two_holders.Goals as goal

pub returns : goal.returns
returns c = clash_is_two_holders_lem
