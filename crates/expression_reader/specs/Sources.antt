-- What the parts of an expression are read as, from a text with its names. Assumes nothing.
use Rattle.std.specs.Prelude.{ℕ, Result}
use Rattle.lock_text.specs.declared.refusal.TextRefusal.{TextRefusal}
use Rattle.expression_grammar.specs.Kinds.{Scope}
use Rattle.expression_grammar.specs.Reading.{State, Outcome, Levels, chain, atom, sum, factor, term, levels}
use Rattle.expression_reader.specs.Ahead.{scope_of}
use Rattle.expression_reader.specs.Bindings.{rank_of}
use Rattle.expression_reader.specs.State.{state, Reads}
use Rattle.expression_reader.specs.declared.binding.Binding.{Binding}
use Rattle.expression_reader.specs.declared.binding.Binding.TheVariants.{Or, And, Test, Plus}
use Rattle.expression_reader.specs.declared.reader.Reader.{Reader}
use Rattle.expression_reader.specs.declared.source.Source.{Source}

-- What stands between two operators that bind so tightly.
abbrev pub part : Binding → Scope → Levels → State → Outcome
part Or scope i = term scope i
part And scope i = factor scope i
part Test scope i = sum scope i
part Plus scope i = atom scope i

-- Such parts and their operators, grouped from the left: of `or` an expression, of `and` a term, of + and - a sum.
abbrev pub parts : Binding → Scope → Levels → State → Outcome
parts b scope i = chain scope (rank_of b) (part b scope i)

-- The outcome of this reading, with so many levels left to open, as the code answers it.
abbrev pub ReadsBy : {U : Type 0} → (Scope → Levels → State → Outcome) → Source → ℕ → Reader → Result U TextRefusal → Reader → Type 0
ReadsBy reading source left r o r' = Reads source.text.now r (reading (scope_of source.names.now) (levels (scope_of source.names.now) left) (state source.text.now r)) o r'
