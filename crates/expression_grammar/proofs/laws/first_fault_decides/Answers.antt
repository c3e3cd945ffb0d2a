use Rattle.expression_grammar.proofs.Local.{first_fault}
use Rattle.expression_grammar.proofs.laws.first_fault_decides.Goals as goal

pub returns : goal.returns
returns c = first_fault
