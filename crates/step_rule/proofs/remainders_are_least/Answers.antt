use Rattle.step_rule.proofs.Remainders.{remainders}
use Rattle.step_rule.proofs.remainders_are_least.Goals as goal

pub returns : goal.returns
returns c = remainders
