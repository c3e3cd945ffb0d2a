use Rattle.std.proofs.Common.{rules, ◌≡◌, ◌+◌, Ok, Err, ℕ, List, Result, sym, arith, ◌∙◌, ap}
use Rattle.std.proofs.lemmas.Bool.Decides.{nat_tests}
use Rattle.system.specs.Transitions.{Transitions}
use Rattle.run_refusal.specs.declared.RunRefusal.{RunRefusal}
use Rattle.run_rules.specs.declared.Kind.{Kind}
use Rattle.run_rules.specs.Reading.{and_then, byte_at, kind_of, kind_at, count_at, process_at_lem, loop_count_at_lem, steps_at_lem, read_run_lem}
use Rattle.run_check.proofs.reading.read_run.Goals as goal

kind_read : (bs : List ℕ) (b : ℕ) (kind : Kind) → byte_at bs 0 ≡ Ok b → kind_of b ≡ Ok kind → kind_at bs ≡ Ok kind
kind_read bs b kind e k = grind (arith, nat_tests)

then_ok : {X Y : Type 0} (r : Result X RunRefusal) (x : X) (f : X → Result Y RunRefusal) → r ≡ Ok x → and_then r f ≡ f x
then_ok r x f e = ap (λ r. and_then r f) e

then_err : {X Y : Type 0} (r : Result X RunRefusal) (e : RunRefusal) (f : X → Result Y RunRefusal) → r ≡ Err e → and_then r f ≡ Err e
then_err r e f h = ap (λ r. and_then r f) h

-- The loop count is refused after all before it was read.
loop_refused : (T : Transitions) (bs : List ℕ) (kind : Kind) (p n : ℕ) (stem : List ℕ) (e : RunRefusal) → kind_at bs ≡ Ok kind →
    process_at_lem T.processes kind bs ≡ Ok p → count_at bs 2 ≡ Ok n → steps_at_lem T.commands bs 6 n ≡ Ok stem →
    loop_count_at_lem kind bs (6 + n) ≡ Err e → read_run_lem T bs ≡ Err e
loop_refused T bs kind p n stem e a b d s l =
    then_ok (kind_at bs) kind _ a ∙ then_ok (process_at_lem T.processes kind bs) p _ b ∙ then_ok (count_at bs 2) n _ d
    ∙ then_ok (steps_at_lem T.commands bs 6 n) stem _ s ∙ then_err (loop_count_at_lem kind bs (6 + n)) e _ l

pub returns-in_err-loop_count-clause-same : goal.returns-in_err-loop_count-clause-same
returns-in_err-loop_count-clause-same g c =
    let a = c.in_ok-byte.ensures in
    let b = c.in_ok-process.ensures in
    let d = c.in_ok-stem_count.ensures in
    let e = c.in_ok-stem.ensures in
    let f = c.in_err-loop_count.ensures in
    let p = c.processes.ensures in
    let k = c.commands.ensures in
    let r = c.from_residual-in_err-loop_count.ensures in
    let T = (g.S.System.meaning c.args.system.now).steps in
    let bs = c.args.bytes.now in
    let l : read_run_lem T bs ≡ Err c.in_err-loop_count.field-0.0 =
    loop_refused T bs c.in_ok-kind.kind c.in_ok-process.process c.in_ok-stem_count.stem_count c.in_ok-stem.stem.now c.in_err-loop_count.field-0.0
    (kind_read bs c.in_ok-byte.field-0 c.in_ok-kind.kind (sym a.read) (sym c.in_ok-kind.ensures)) (grind arith) (grind arith) (grind arith) (grind arith) in
    search (rules, l)
