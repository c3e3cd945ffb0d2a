use Rattle.system_laws.proofs.Example.{just_only_under_mask}
use Rattle.system_laws.proofs.justice_need_not_carry_down.Goals as goal

pub returns : goal.returns
returns c = just_only_under_mask
