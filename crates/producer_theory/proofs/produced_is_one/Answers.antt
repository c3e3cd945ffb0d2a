use Rattle.producer_theory.proofs.Accepted.{produced_is_one_lem}
use Rattle.producer_theory.proofs.produced_is_one.Goals as goal

pub returns : goal.returns
returns c = produced_is_one_lem
