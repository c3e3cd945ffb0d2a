use Rattle.std.proofs.Common.{ℕ, ◌+◌, ◌*◌}
use Rattle.expression_grammar.specs.Kinds.{size}
use Rattle.expression_grammar.specs.Reading.{levels}
use Rattle.expression_reader.specs.Ahead.{ahead, scope_of}
use Rattle.expression_reader.specs.Bindings.{rank_of}
use Rattle.expression_reader.specs.Sources.{part}
use Rattle.expression_reader.specs.declared.binding.Binding.{Binding}
use Rattle.expression_reader.specs.declared.binding.Binding.TheVariants.{Or, And, Test, Plus}
use Rattle.expression_reader.proofs.Readings.{Going}
use Rattle.expression_reader.proofs.reader.Reader.+parts.Given as goal

-- how deep the grammar goes below a part of this kind
abbrev below : Binding → ℕ
below Plus = 1
below Test = 3
below And = 5
below Or = 7

abbrev pub decreases-atom : goal.decreases-atom
decreases-atom l = l.left * 9

abbrev pub decreases-factor : goal.decreases-factor
decreases-factor l = l.left * 9 + 4

abbrev pub decreases-part : goal.decreases-part
decreases-part l = l.left * 9 + below l.binding

abbrev pub decreases-parts : goal.decreases-parts
decreases-parts l = l.left * 9 + (below l.binding + 1)

abbrev pub invariant-parts-loop-sign : goal.invariant-parts-loop-sign
invariant-parts-loop-sign l =
    Going (scope_of l.source.names.now) l.source.text.now (rank_of l.binding) (part l.binding (scope_of l.source.names.now) (levels (scope_of l.source.names.now) l.left)) l.initial.self l.self

abbrev pub decreases-parts-loop-sign : goal.decreases-parts-loop-sign
decreases-parts-loop-sign l = size (ahead l.source.text.now l.self.at)
