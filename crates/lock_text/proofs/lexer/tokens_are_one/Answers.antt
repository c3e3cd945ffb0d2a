use Rattle.lock_text.proofs.lexer.tokens_are_one.Goals as goal
use Rattle.lock_text.proofs.One.{tokens_are_one_lem, first_fault_is_one, no_fault_among_tokens}

pub returns : goal.returns
returns c = record { tokens = tokens_are_one_lem; fault = first_fault_is_one; apart = no_fault_among_tokens }
