use Rattle.lock_grammar.proofs.Found.{names_are_found_lem}
use Rattle.lock_grammar.proofs.names_are_found.Goals as goal

pub returns : goal.returns
returns c = names_are_found_lem
