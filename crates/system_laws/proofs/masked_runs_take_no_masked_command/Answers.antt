use Rattle.system_laws.proofs.Masked.{masked_runs}
use Rattle.system_laws.proofs.masked_runs_take_no_masked_command.Goals as goal

pub returns : goal.returns
returns c = masked_runs
