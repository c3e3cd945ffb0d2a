use Rattle.producer_theory.proofs.Tour.{none_suits_locks_out_lem}
use Rattle.producer_theory.proofs.none_suits_locks_out.Goals as goal

pub returns : goal.returns
returns c = none_suits_locks_out_lem
