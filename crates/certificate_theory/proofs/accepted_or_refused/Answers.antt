use Rattle.certificate_theory.proofs.Orderly.{accepted_or_refused_lem}
use Rattle.certificate_theory.proofs.accepted_or_refused.Goals as goal

pub returns : goal.returns
returns c = accepted_or_refused_lem
