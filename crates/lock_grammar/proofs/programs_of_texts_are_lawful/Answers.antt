use Rattle.lock_grammar.proofs.Lines.{well_formed, lawful_systems}
use Rattle.lock_grammar.proofs.programs_of_texts_are_lawful.Goals as goal

pub returns : goal.returns
returns c = record { formed = well_formed; lawful = lawful_systems }
