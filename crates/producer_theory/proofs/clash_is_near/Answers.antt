use Rattle.producer_theory.proofs.Tour.{clash_is_near_lem}
use Rattle.producer_theory.proofs.clash_is_near.Goals as goal

pub returns : goal.returns
returns c = clash_is_near_lem
