use Rattle.std.proofs.Common.{sym, ◌∙◌}
use Rattle.std.proofs.lemmas.Bool.{le-ltb}
use Rattle.system.proofs.Masks.{bit_beyond}
use Rattle.system.proofs.mask.is_set.Goals as goal

pub returns-else-command-lt64 : goal.returns-else-command-lt64
returns-else-command-lt64 c =
    le-ltb c.args.command 64 c.if-command-lt64.false ∙ sym (bit_beyond 64 c.args.mask c.args.command c.ranges.mask.fits c.if-command-lt64.false)
