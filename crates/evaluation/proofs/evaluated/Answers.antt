use Rattle.std.proofs.Common.{◌≡◌, ◌+◌, [], length, drop, Some, sym, ap, ◌∙◌, w32, SFits, rules}
use Rattle.std.specs.Bool.{then_some}
use Rattle.std.proofs.lemmas.Int.{to_z-of_z}
use Rattle.stack.specs.Held.{held, places}
use Rattle.evaluation.specs.Postfix.{worked_out, single}
use Rattle.evaluation.proofs.Runs.{one_more, stuck, gives_values, at_end, alone, begun}
use Rattle.evaluation.proofs.evaluated.Goals as goal

pub returns-in_err-step : goal.returns-in_err-step
returns-in_err-step c =
    let vs = c.args.values.now in
    let code = c.args.code.now in
    let is : c.from_residual.result ≡ worked_out (length c.args.room.now) vs code (Some []) =
    c.from_residual.ensures ∙ sym (stuck (places c.new-stack.result) vs (drop (c.loop-item.item-index + 1) code))
    ∙ ap (worked_out (places c.new-stack.result) vs (drop (c.loop-item.item-index + 1) code)) (sym c.in_err-step.ensures.told)
    ∙ one_more (places c.new-stack.result) (places c.loop-item.stack) vs code c.loop-item.item-index _ (held c.loop-item.stack) _ c.loop-item.invariant.0 c.loop-item-test.true c.loop-item.invariant.1 ∙ begun c.args.room.now _ vs code _ c.new-stack.ensures.over c.new-stack.ensures.holds in
    record { is = is; value = gives_values (length c.args.room.now) vs (λ v h. (c.type_inv.values v).fits) code c.from_residual.result is }

pub loop-item-preserved : goal.loop-item-preserved
loop-item-preserved c =
    let vs = c.args.values.now in
    let code = c.args.code.now in (
      c.step.ensures.kept ∙ c.loop-item.invariant.0,
      ap (worked_out (places c.new-stack.result) vs (drop (c.loop-item.item-index + 1) code)) (sym c.in_ok-step.ensures.told)
          ∙ one_more (places c.new-stack.result) (places c.loop-item.stack) vs code c.loop-item.item-index _ (held c.loop-item.stack) _ c.loop-item.invariant.0 c.loop-item-test.true c.loop-item.invariant.1,
    )

pub returns-in_err-value : goal.returns-in_err-value
returns-in_err-value c =
    let vs = c.args.values.now in
    let code = c.args.code.now in
    let is : c.from_residual-in_err-value.result ≡ worked_out (length c.args.room.now) vs code (Some []) =
    c.from_residual-in_err-value.ensures ∙ ap single (sym c.in_err-value.ensures.cases.0)
    ∙ at_end (places c.new-stack.result) vs code c.loop-item.item-index (held c.loop-item.stack) _ c.loop-item-test.false c.loop-item.invariant.1 ∙ begun c.args.room.now _ vs code _ c.new-stack.ensures.over c.new-stack.ensures.holds in
    record { is = is; value = gives_values (length c.args.room.now) vs (λ v h. (c.type_inv.values v).fits) code c.from_residual-in_err-value.result is }

pub returns : goal.returns
returns c =
    let vs = c.args.values.now in
    let code = c.args.code.now in
    let z = c.in_ok-value.value in
    let f : SFits w32 z = search rules in
    let is : c.then_some.result ≡ worked_out (length c.args.room.now) vs code (Some []) =
    c.then_some.ensures ∙ ap (then_some c.is_empty.result) (to_z-of_z w32 z f) ∙ ap (λ b. then_some b z) c.is_empty.ensures
    ∙ alone z (held c.pop.new.self) ∙ ap single (sym c.in_ok-value.ensures.cases)
    ∙ at_end (places c.new-stack.result) vs code c.loop-item.item-index (held c.loop-item.stack) _ c.loop-item-test.false c.loop-item.invariant.1 ∙ begun c.args.room.now _ vs code _ c.new-stack.ensures.over c.new-stack.ensures.holds in
    record { is = is; value = gives_values (length c.args.room.now) vs (λ v h. (c.type_inv.values v).fits) code _ is }
