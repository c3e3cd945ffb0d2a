use Rattle.std.proofs.Common.{◌≡◌, rules}
use Rattle.postfix.specs.Decoding.{admitted}
use Rattle.postfix.proofs.Trees.{answered}
use Rattle.postfix.proofs.is_expression.Goals as goal

pub returns : goal.returns
returns c =
    let is : c.is_some_and.result ≡ admitted c.args.variables c.args.items.now = search rules in
    let a = answered c.args.variables c.args.items.now c.is_some_and.result is in
    record { is = is; only = a.0; all = a.1 }
