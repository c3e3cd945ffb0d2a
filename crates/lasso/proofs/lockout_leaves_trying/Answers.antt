use Rattle.lasso.proofs.Lasso.{lockout_leaves_trying_lem}
use Rattle.lasso.proofs.lockout_leaves_trying.Goals as goal

pub returns : goal.returns
returns c = lockout_leaves_trying_lem
