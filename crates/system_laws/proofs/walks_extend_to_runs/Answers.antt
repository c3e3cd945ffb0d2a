use Rattle.system_laws.proofs.Walks.{walks_extend_to_runs_lem}
use Rattle.system_laws.proofs.walks_extend_to_runs.Goals as goal

pub returns : goal.returns
returns c = walks_extend_to_runs_lem
