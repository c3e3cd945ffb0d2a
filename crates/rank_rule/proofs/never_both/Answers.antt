use Rattle.lasso.proofs.Lasso.{bad_run_breaks_lock_lem}
use Rattle.rank_rule.proofs.Soundness.{rank_rule_is_sound_lem}
use Rattle.rank_rule.proofs.never_both.Goals as goal

pub returns : goal.returns
returns c = λ K laws S law C rule bad. bad_run_breaks_lock_lem S bad (rank_rule_is_sound_lem K laws S law C rule)
