use Rattle.step_rule.proofs.Laws.{meaning_lawful}
use Rattle.step_rule.proofs.programs_mean_lawful_systems.Goals as goal

pub returns : goal.returns
returns c = meaning_lawful
