use Rattle.std.proofs.Common.{◌<◌, length, set, sym, refl, ap, ◌∙◌, arith}
use Rattle.stack.proofs.Rooms.{pushed, counted}
use Rattle.stack.proofs.room.Stack.push.Goals as goal

pub returns-then-self-clause-cases : goal.returns-then-self-clause-cases
returns-then-self-clause-cases g c =
    let stack = c.args.self.now in
    (counted stack.room.now stack.len stack.ok ∙ c.if-self.true, refl, refl)

pub returns-clause-cases : goal.returns-clause-cases
returns-clause-cases g c =
    let stack = c.args.self.now in
    let room = stack.room.now in
    let ok = stack.ok in
    let full = c.if-self.false in
    let lt : stack.len < length room = omega arith in
    let count = counted room stack.len stack.ok in
    (omega arith, pushed room (set room stack.len c.args.x) stack.len _ c.args.x lt refl refl, ap (λ k. set room k c.args.x) (sym count))
