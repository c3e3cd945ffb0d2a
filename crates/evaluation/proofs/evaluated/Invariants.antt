use Rattle.std.proofs.Common.{◌≡◌, drop, Some}
use Rattle.stack.specs.Held.{held, places}
use Rattle.evaluation.specs.Postfix.{worked_out}
use Rattle.evaluation.proofs.evaluated.Given as goal

abbrev pub invariant-loop-item : goal.invariant-loop-item
invariant-loop-item l =
    (places l.stack ≡ places l.initial.stack)
    × (worked_out (places l.initial.stack) l.values (drop l.item-index l.code) (Some (held l.stack)) ≡ worked_out (places l.initial.stack) l.values l.code (Some (held l.initial.stack)))
