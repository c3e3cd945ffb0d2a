use Rattle.std.proofs.Common.{arith}
use Rattle.run_rules.proofs.Accepted.{right, all, proves}
use Rattle.run_check.proofs.check_run.Goals as goal

pub returns : goal.returns
returns g c =
    let m = g.S.System.meaning c.args.system.now in
    let law = g.met.S.System.lawful c.args.system.now in
    let bs = c.args.bytes.now in
    let answer = c.answer.result in
    let is = right m law bs (λ i h. let fits = c.type_inv.bytes i in omega arith) answer c.answer.ensures in
    record {
      right = is;
      all = λ bad. all m law bs bad answer c.answer.ensures;
      condemned = proves m law bs answer is;
      same = c.answer.ensures;
    }
