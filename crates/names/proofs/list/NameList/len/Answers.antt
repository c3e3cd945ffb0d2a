use Rattle.std.proofs.Common.{sym}
use Rattle.names.proofs.Listed.{listed_length}
use Rattle.names.proofs.list.NameList.len.Goals as goal

pub returns : goal.returns
returns c = sym (listed_length c.args.self.now)
