use Rattle.std.proofs.Common.{sym, ap, nat_eq}
use Rattle.stack.proofs.Rooms.{counted}
use Rattle.stack.proofs.room.Stack.is_empty.Goals as goal

pub returns : goal.returns
returns g c =
    let stack = c.args.self.now in
    ap (λ n. nat_eq n 0) (sym (counted stack.room.now stack.len stack.ok))
