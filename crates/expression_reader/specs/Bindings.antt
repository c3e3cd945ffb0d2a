-- How tightly operators bind, as the grammar numbers it. Assumes nothing.
use Rattle.std.specs.Prelude.{ℕ}
use Rattle.expression_reader.specs.declared.binding.Binding.{Binding}
use Rattle.expression_reader.specs.declared.binding.Binding.TheVariants.{Or, And, Test, Plus}

abbrev pub rank_of : Binding → ℕ
rank_of Or = 0
rank_of And = 1
rank_of Test = 2
rank_of Plus = 3
