use Rattle.expression_grammar.proofs.Sound.{sound_reading}
use Rattle.expression_grammar.proofs.laws.reading_is_sound.Goals as goal

pub returns : goal.returns
returns c = sound_reading
