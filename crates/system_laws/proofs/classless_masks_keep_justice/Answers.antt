use Rattle.system_laws.proofs.Masked.{classless_masks_keep_justice_lem}
use Rattle.system_laws.proofs.classless_masks_keep_justice.Goals as goal

pub returns : goal.returns
returns c = classless_masks_keep_justice_lem
