use Rattle.certificate_theory.proofs.Orderly.{one_refusal_lem}
use Rattle.certificate_theory.proofs.one_refusal.Goals as goal

pub returns : goal.returns
returns c = one_refusal_lem
