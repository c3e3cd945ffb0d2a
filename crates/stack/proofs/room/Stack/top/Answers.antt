use Rattle.std.proofs.Common.{◌∙◌}
use Rattle.stack.proofs.Rooms.{topped}
use Rattle.stack.proofs.room.Stack.top.Goals as goal

pub returns : goal.returns
returns g c =
    let stack = c.args.self.now in
    c.copied.ensures ∙ c.last.ensures.value ∙ topped stack.room.now stack.len stack.ok
