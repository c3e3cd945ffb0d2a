use Rattle.byte_numbers.proofs.Numbers.{written_is_read_lem}
use Rattle.byte_numbers.proofs.written_is_read.Goals as goal

pub returns : goal.returns
returns c = written_is_read_lem
