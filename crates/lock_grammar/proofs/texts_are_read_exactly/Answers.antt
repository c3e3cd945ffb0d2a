use Rattle.lock_grammar.proofs.Bytes.{read_exactly}
use Rattle.lock_grammar.proofs.texts_are_read_exactly.Goals as goal

pub returns : goal.returns
returns c = read_exactly
