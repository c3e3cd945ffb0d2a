use Rattle.std.proofs.Common.{arith}
use Rattle.stack.proofs.Rooms.{counted}
use Rattle.stack.proofs.room.Stack.len.Goals as goal

pub returns : goal.returns
returns g c =
    let stack = c.args.self.now in
    omega (arith, counted stack.room.now stack.len stack.ok)
