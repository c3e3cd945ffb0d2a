use Rattle.byte_numbers.proofs.Numbers.{read_is_written_lem}
use Rattle.byte_numbers.proofs.read_is_written.Goals as goal

pub returns : goal.returns
returns c = read_is_written_lem
