use Rattle.system_laws.proofs.Walks.{reachable_is_passed_through_lem}
use Rattle.system_laws.proofs.reachable_is_passed_through.Goals as goal

pub returns : goal.returns
returns c = reachable_is_passed_through_lem
