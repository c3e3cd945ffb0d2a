use Rattle.lock_grammar.proofs.Examples.{refusals, locks_read}
use Rattle.lock_grammar.proofs.example_texts_are_answered.Goals as goal

pub returns : goal.returns
returns c = record { refusals = refusals; locks = locks_read }
