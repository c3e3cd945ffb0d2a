use Rattle.system_laws.proofs.Masked.{masks_bring_no_clash_lem}
use Rattle.system_laws.proofs.masks_bring_no_clash.Goals as goal

pub returns : goal.returns
returns c = masks_bring_no_clash_lem
