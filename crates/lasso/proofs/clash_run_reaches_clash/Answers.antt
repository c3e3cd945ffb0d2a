use Rattle.lasso.proofs.Lasso.{clash_run_reaches_clash_lem}
use Rattle.lasso.proofs.clash_run_reaches_clash.Goals as goal

pub returns : goal.returns
returns c = clash_run_reaches_clash_lem
