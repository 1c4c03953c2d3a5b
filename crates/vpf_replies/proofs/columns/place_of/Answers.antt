use Rattle.vpf_replies.proofs.ColumnPlaces.{found_at}
use Rattle.vpf_replies.proofs.columns.place_of.Goals as goal

pub returns-clause-at : goal.returns-clause-at
returns-clause-at c = found_at c.args.name.now c.args.header.now.columns c.column.result (rw (← c.as_bytes.ensures.value) c.column.ensures)
