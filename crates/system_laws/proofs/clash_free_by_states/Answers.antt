use Rattle.system_laws.proofs.Walks.{clash_free_by_states_lem}
use Rattle.system_laws.proofs.clash_free_by_states.Goals as goal

pub returns : goal.returns
returns c = clash_free_by_states_lem
