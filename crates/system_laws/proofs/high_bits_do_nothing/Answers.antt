use Rattle.system.proofs.Masks.{high_bits_do_nothing_lem}
use Rattle.system_laws.proofs.high_bits_do_nothing.Goals as goal

pub returns : goal.returns
returns c = high_bits_do_nothing_lem
