use Rattle.rank_rule.proofs.Soundness.{rank_rule_is_sound_lem}
use Rattle.rank_rule.proofs.rank_rule_is_sound.Goals as goal

pub returns : goal.returns
returns c = rank_rule_is_sound_lem
