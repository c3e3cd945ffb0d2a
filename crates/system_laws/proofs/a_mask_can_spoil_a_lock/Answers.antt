use Rattle.system_laws.proofs.Example.{mask_spoils}
use Rattle.system_laws.proofs.a_mask_can_spoil_a_lock.Goals as goal

pub returns : goal.returns
returns c = mask_spoils
