use Rattle.std.proofs.Common.{◌≡◌, subst}
use Rattle.certificate_theory.specs.declared.limits.Limits.{Limits}
use Rattle.certificate_theory.specs.Reading.{reading_fault}
use Rattle.certificate_theory.specs.Content.{limits_of_lem}
use Rattle.certificate_read.specs.Views.{refusal_in, Begins}
use Rattle.certificate_read.proofs.Answered.{read_rightly}
use Rattle.certificate_read.proofs.read_certificate.Goals as goal

pub returns : goal.returns
returns g c =
    let L = limits_of_lem g.R.Rank.kind (g.S.System.meaning c.args.system.now) in
    let bs = c.args.bytes.now in
    let r = c.read_fields.result in
    let e = c.limits_of.ensures in
    record {
      told = read_rightly L bs r (subst (λ (M : Limits). refusal_in r ≡ reading_fault M bs) e c.read_fields.ensures.told);
      begins = subst (λ (M : Limits). Begins M bs r) e c.read_fields.ensures.begins;
    }
