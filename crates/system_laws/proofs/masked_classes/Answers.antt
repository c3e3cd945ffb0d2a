use Rattle.system_laws.proofs.Masked.{masked_classes_lem}
use Rattle.system_laws.proofs.masked_classes.Goals as goal

pub returns : goal.returns
returns c = masked_classes_lem
