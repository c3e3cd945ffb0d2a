use Rattle.std.proofs.Common.{ap, ◌∙◌, drop, arith, rules}
use Rattle.std.proofs.lemmas.Iterator.{YieldsList-from_slice}
use Rattle.std.proofs.lemmas.Iterator.Consumers.{count_from_yields_List}
use Rattle.std.proofs.lemmas.Iterator.Search.{YieldsList-from_take_while}
use Rattle.std.proofs.lemmas.List.{length-drop, length-take-le, take_all}
use Rattle.std.proofs.lemmas.List.Sums.{prefix_len-le-length}
use Rattle.lock_text.specs.Lexing.{in_run}
use Rattle.lock_text.proofs.lexer.run_end.Goals as goal
use Rattle.lock_text.proofs.Runs.{run_from}
use borrow.Author.Tests.{tests}

pub returns : goal.returns
returns c =
    let rest = drop c.min.result c.args.text.now in
    let counted = count_from_yields_List _ _ c.count-passing.ensures.ran (YieldsList-from_take_while _ (in_run c.args.run) (YieldsList-from_slice rest (ap (λ s. s.rest.now) c.take_while.ensures.source ∙ c.iter.ensures.rest ∙ take_all _ rest (omega (arith, length-drop c.min.result c.args.text.now)))) c.take_while.ensures.closure c.take_while.ensures.done (λ x b q k. search (rules, tests))) in
    run_from _ c.args.text.now c.args.from c.min.result _ (λ h. omega (arith, c.min.ensures)) (λ h. omega (arith, c.min.ensures))
    (counted ∙ length-take-le _ rest (prefix_len-le-length (in_run c.args.run) rest))
