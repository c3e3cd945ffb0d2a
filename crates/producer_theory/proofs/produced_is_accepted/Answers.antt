use Rattle.producer_theory.proofs.Accepted.{produced_is_accepted_lem}
use Rattle.producer_theory.proofs.produced_is_accepted.Goals as goal

pub returns : goal.returns
returns c = produced_is_accepted_lem
