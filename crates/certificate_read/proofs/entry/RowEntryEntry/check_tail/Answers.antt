use Rattle.certificate_read.proofs.Moving.{row_tail_moved}
use Rattle.certificate_read.proofs.entry.RowEntryEntry.check_tail.Goals as goal

pub returns-clause-moves : goal.returns-clause-moves
returns-clause-moves c = row_tail_moved c.args.cursor.now c.class.new.self c.rank.new.self c.rank.result c.in_ok-class.ensures.moves c.rank.ensures.moves
