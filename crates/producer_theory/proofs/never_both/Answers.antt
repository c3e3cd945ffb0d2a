use Rattle.producer_theory.proofs.Truth.{never_both}
use Rattle.producer_theory.proofs.never_both.Goals as goal

pub returns : goal.returns
returns c = never_both
