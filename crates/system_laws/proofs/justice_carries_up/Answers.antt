use Rattle.system_laws.proofs.Masked.{justice_carries_up_lem}
use Rattle.system_laws.proofs.justice_carries_up.Goals as goal

pub returns : goal.returns
returns c = justice_carries_up_lem
