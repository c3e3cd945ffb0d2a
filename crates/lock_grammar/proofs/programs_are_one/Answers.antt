use Rattle.lock_grammar.proofs.Texts.{one_program}
use Rattle.lock_grammar.proofs.programs_are_one.Goals as goal

pub returns : goal.returns
returns c = one_program
