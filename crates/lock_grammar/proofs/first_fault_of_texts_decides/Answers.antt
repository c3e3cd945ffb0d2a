use Rattle.lock_grammar.proofs.Texts.{first_fault}
use Rattle.lock_grammar.proofs.Through.{first_fault_by_bytes}
use Rattle.lock_grammar.proofs.first_fault_of_texts_decides.Goals as goal

pub returns : goal.returns
returns c = record { tokens = first_fault; bytes = first_fault_by_bytes }
