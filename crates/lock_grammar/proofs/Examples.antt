-- The examples, worked out. Assumes nothing.
use Rattle.std.proofs.Common.{refl}
use Rattle.token_stream.specs.Computed.{run_length, stream_from}
use Rattle.expression_grammar.specs.Reading.{count, operand, more, chain, atom, factor, levels}
use Rattle.lock_grammar.specs.Names.{index_of}
use Rattle.lock_grammar.specs.Combinators.{next, one, times, at_end}
use Rattle.lock_grammar.specs.Tests.{this_word, this_mark, number_within, undeclared, declared, region_word, class_or_none, unassigned, none_left, target_or_end, comma_or_end}
use Rattle.lock_grammar.specs.Reading.{formula, assigning}
use Rattle.lock_grammar.specs.Examples.{RefusalExamples, ReadExamples}

pub refusals : RefusalExamples
unfolding run_length stream_from count operand more chain atom factor levels index_of next one times at_end this_word this_mark number_within undeclared declared region_word class_or_none unassigned none_left target_or_end comma_or_end formula assigning
refusals = record {
  spelling = refl;
  unwanted = refl;
  missing = refl;
  surplus = refl;
  range = refl;
  initial = refl;
  class = refl;
  declared = refl;
  unknown = refl;
  twice = refl;
  levels = refl;
  operands = refl;
  states = refl;
}

pub locks_read : ReadExamples
unfolding run_length stream_from count operand more chain atom factor levels index_of next one times at_end this_word this_mark number_within undeclared declared region_word class_or_none unassigned none_left target_or_end comma_or_end formula assigning
locks_read = record { plain = refl; assigning = refl }
