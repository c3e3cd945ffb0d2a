use Rattle.lock_grammar.proofs.Texts.{complete_texts}
use Rattle.lock_grammar.proofs.texts_are_read_completely.Goals as goal

pub returns : goal.returns
returns c = complete_texts
