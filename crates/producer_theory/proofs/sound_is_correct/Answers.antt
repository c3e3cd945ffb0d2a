use Rattle.producer_theory.proofs.Truth.{sound_is_correct_lem}
use Rattle.producer_theory.proofs.sound_is_correct.Goals as goal

pub returns : goal.returns
returns c = sound_is_correct_lem
