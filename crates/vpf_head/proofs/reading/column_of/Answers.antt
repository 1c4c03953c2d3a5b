use Rattle.std.proofs.Common.{sym}
use Rattle.vpf_head.proofs.Entries.{value_at}
use Rattle.vpf_head.proofs.reading.column_of.Goals as goal

pub returns : goal.returns
returns c = value_at c.args.columns.now.entries c.args.c _ (sym (rw c.unwrap.ensures at c.get_index.ensures.entry))
