use Rattle.std.proofs.Common.{ap, ◌∙◌, ap₂}
use lib.Bits.{bit_or}
use Rattle.system.specs.Masks.{masked}
use Rattle.system.proofs.Masks.{piles_are_unions_lem}
use Rattle.system.proofs.mask.pile.Goals as goal

pub returns-clause-union : goal.returns-clause-union
returns-clause-union g c =
    let (inner, below, above) = c.layers.ensures in
    piles_are_unions_lem _ _ _ ∙ ap₂ masked (ap₂ bit_or above below) (ap g.S.System.meaning inner)
