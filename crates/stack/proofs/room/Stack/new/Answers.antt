use Rattle.std.proofs.Common.{refl}
use Rattle.stack.proofs.Rooms.{none}
use Rattle.stack.proofs.room.Stack.new.Goals as goal

pub returns : goal.returns
returns g c = record { holds = none c.args.room.now; over = refl; lent = refl }
