use Rattle.step_rule.proofs.Digits.{one_to_one}
use Rattle.step_rule.proofs.codes_are_one_to_one.Goals as goal

pub returns : goal.returns
returns c = one_to_one
