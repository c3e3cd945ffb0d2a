use Rattle.producer_theory.proofs.Truth.{right_rows_keep_out_lockout_lem}
use Rattle.producer_theory.proofs.right_rows_keep_out_lockout.Goals as goal

pub returns : goal.returns
returns c = right_rows_keep_out_lockout_lem
