use Rattle.std.proofs.Common.{◌≡◌, ℕ, ◌<◌, ◌≤◌, get_or, Err, sym, subst, inl}
use Rattle.std.proofs.lemmas.Result.{err_from_is_err_and}
use Rattle.certificate_theory.specs.declared.limits.Limits.{Limits}
use Rattle.certificate_theory.specs.Reading.{Reads}
use Rattle.certificate_theory.specs.Content.{rows_start}
use Rattle.certificate_theory.specs.Judging.{Answered}
use Rattle.certificate_theory.proofs.Scans.{reads_are_whole}
use Rattle.certificate_theory.proofs.Orderly.{answered_all, judged_answered}
use Rattle.certificate_check.proofs.Arms.{answer_is_correct}
use Rattle.certificate_check.proofs.check_certificate_of.Goals as goal

pub returns-in_err-starts : goal.returns-in_err-starts
returns-in_err-starts g c =
    let p = err_from_is_err_and c.from_residual.result c.from_residual.ensures.1 in
    let K = g.R.Rank.kind in
    let S = g.S.System.meaning c.args.system.now in
    let law = g.met.S.System.lawful c.args.system.now in
    let bs = c.args.bytes.now in
    let a : Answered {X = Unit {0}} K S bs (Err c.in_err-starts.field-0.0) = inl c.in_err-starts.ensures.told in
    rw (p.1, p.2) (record {
      answered = a;
      all = answered_all K S law bs (Err c.in_err-starts.field-0.0) a;
      correct = answer_is_correct K g.met.R.Rank.lawful S law bs (Err c.in_err-starts.field-0.0) a;
    })

pub invariant_of-view : goal.invariant_of-view
invariant_of-view g c =
    let bs = c.args.bytes.now in
    let back = sym c.limits_of-limits.ensures in
    let r = c.in_ok-starts.ensures in
    record {
      few = subst (λ (M : Limits). M.processes ≤ 8) back (g.met.S.System.lawful c.args.system.now).steps.few_processes;
      reads = reads_are_whole c.limits_of-limits.result bs (subst (λ (M : Limits). Reads M bs) back r.told);
      begins = subst (λ (M : Limits). (p : ℕ) → p < M.processes → get_or c.in_ok-starts.starts p 0 ≡ rows_start M.numbers bs p) back r.begins;
    }

pub returns : goal.returns
returns g c =
    let K = g.R.Rank.kind in
    let S = g.S.System.meaning c.args.system.now in
    let law = g.met.S.System.lawful c.args.system.now in
    let bs = c.args.bytes.now in
    let same = c.limits_of-limits.ensures in
    let reads = subst (λ (M : Limits). Reads M bs) (sym same) c.in_ok-starts.ensures.told in
    let a = judged_answered K S law bs c.limits_of-limits.result same reads c.judge.result c.judge.ensures in
    record {
      answered = a;
      all = answered_all K S law bs c.judge.result a;
      correct = answer_is_correct K g.met.R.Rank.lawful S law bs c.judge.result a;
    }
