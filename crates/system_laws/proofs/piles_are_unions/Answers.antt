use Rattle.system.proofs.Masks.{piles_are_unions_lem}
use Rattle.system_laws.proofs.piles_are_unions.Goals as goal

pub returns : goal.returns
returns c = piles_are_unions_lem
