use Rattle.lock_grammar.proofs.Texts.{sound_texts}
use Rattle.lock_grammar.proofs.texts_are_read_soundly.Goals as goal

pub returns : goal.returns
returns c = sound_texts
