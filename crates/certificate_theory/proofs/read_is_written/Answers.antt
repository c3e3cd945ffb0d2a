use Rattle.certificate_theory.proofs.Writing.{read_again}
use Rattle.certificate_theory.proofs.read_is_written.Goals as goal

pub returns : goal.returns
returns c = read_again
