use Rattle.std.proofs.Common.{◌≡◌, ◌<◌, take}
use Rattle.expression_grammar.specs.Kinds.{decimal}
use Rattle.expression_reader.proofs.number.byte_value.Given as goal

-- the value of the digits so far
abbrev pub invariant-loop-digit : goal.invariant-loop-digit
invariant-loop-digit l = record { value : l.value ≡ decimal (take l.digit-index l.digits); fits : l.value < 256 }
