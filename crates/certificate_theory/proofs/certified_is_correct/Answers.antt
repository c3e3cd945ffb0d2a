use Rattle.rank_rule.proofs.Soundness.{rank_rule_is_sound_lem}
use Rattle.certificate_theory.specs.Content.{limits_of_lem, content}
use Rattle.certificate_theory.proofs.certified_is_correct.Goals as goal

pub returns : goal.returns
returns c = λ K laws S law bytes cert. rank_rule_is_sound_lem K laws S law (content (limits_of_lem K S) bytes) cert.meets_rule
