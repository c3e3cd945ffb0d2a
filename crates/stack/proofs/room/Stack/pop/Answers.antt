use Rattle.stack.proofs.Rooms.{shown}
use Rattle.stack.proofs.room.Stack.pop.Goals as goal

pub overflow_sub-self : goal.overflow_sub-self
overflow_sub-self g c =
    let stack = c.args.self.now in
    (shown stack.room.now stack.len _ stack.ok c.in_ok-top.ensures).0

pub returns-clause-cases : goal.returns-clause-cases
returns-clause-cases g c =
    let stack = c.args.self.now in
    (shown stack.room.now stack.len _ stack.ok c.in_ok-top.ensures).1
