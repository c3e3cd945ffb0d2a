use Rattle.producer_theory.proofs.Truth.{certified_exactly_when_correct_lem}
use Rattle.producer_theory.proofs.certified_exactly_when_correct.Goals as goal

pub returns : goal.returns
returns c = certified_exactly_when_correct_lem
