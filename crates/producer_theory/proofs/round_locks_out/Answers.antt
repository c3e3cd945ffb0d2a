use Rattle.producer_theory.proofs.Tour.{round_locks_out_lem}
use Rattle.producer_theory.proofs.round_locks_out.Goals as goal

pub returns : goal.returns
returns c = round_locks_out_lem
