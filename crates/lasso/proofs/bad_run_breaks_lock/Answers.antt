use Rattle.lasso.proofs.Lasso.{bad_run_breaks_lock_lem}
use Rattle.lasso.proofs.bad_run_breaks_lock.Goals as goal

pub returns : goal.returns
returns c = bad_run_breaks_lock_lem
