use Rattle.expression_grammar.proofs.Complete.{one_tree}
use Rattle.expression_grammar.proofs.laws.trees_are_one.Goals as goal

pub returns : goal.returns
returns c = one_tree
