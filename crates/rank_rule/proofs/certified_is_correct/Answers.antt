use Rattle.rank_rule.proofs.Soundness.{rank_rule_is_sound_lem}
use Rattle.rank_rule.proofs.certified_is_correct.Goals as goal

pub returns : goal.returns
returns g c = rank_rule_is_sound_lem g.R.Rank.kind g.met.R.Rank.lawful
