use Rattle.std.proofs.Common.{◌≡◌, ◌+◌, ◌-◌, ◌<◌, length, set, sym, refl, ap, ◌∙◌, arith}
use Rattle.stack.specs.Held.{with_top}
use Rattle.stack.proofs.Rooms.{shown, pushed, counted}
use Rattle.stack.proofs.room.Stack.replace_top.Goals as goal

pub overflow_sub-x : goal.overflow_sub-x
overflow_sub-x g c =
    let stack = c.args.self.now in
    (shown stack.room.now stack.len _ stack.ok c.in_ok-top.ensures).0

pub bounds-self-self : goal.bounds-self-self
bounds-self-self g c =
    let stack = c.args.self.now in
    let some = (shown stack.room.now stack.len _ stack.ok c.in_ok-top.ensures).0 in
    let ok = stack.ok in
    omega arith

pub returns-clause-new : goal.returns-clause-new
returns-clause-new g c =
    let stack = c.args.self.now in
    let room = stack.room.now in
    let top = shown room stack.len _ stack.ok c.in_ok-top.ensures in
    let some = top.0 in
    let ok = stack.ok in
    let lt : stack.len - 1 < length room = omega arith in
    let more : stack.len ≡ stack.len - 1 + 1 = omega arith in
    pushed room (set room (stack.len - 1) c.args.x) (stack.len - 1) stack.len c.args.x lt refl more
    ∙ sym (ap (with_top c.args.x) top.1)

pub returns-clause-put : goal.returns-clause-put
returns-clause-put g c =
    let stack = c.args.self.now in
    ap (λ k. set stack.room.now (k - 1) c.args.x) (sym (counted stack.room.now stack.len stack.ok))
