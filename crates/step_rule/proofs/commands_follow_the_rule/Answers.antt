use Rattle.step_rule.proofs.Rules.{follow}
use Rattle.step_rule.proofs.commands_follow_the_rule.Goals as goal

pub returns : goal.returns
returns c = follow
