use Rattle.expression_grammar.proofs.Complete.{complete_reading}
use Rattle.expression_grammar.proofs.laws.reading_is_complete.Goals as goal

pub returns : goal.returns
returns c = complete_reading
