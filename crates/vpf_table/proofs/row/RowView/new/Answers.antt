use Rattle.vpf_table.specs.Reading.{row_at}
use Rattle.vpf_table.specs.Walking.{row_of, past_of}
use Rattle.vpf_table.proofs.CellOf.{read_is, length-row}
use Rattle.vpf_table.proofs.row.RowView.new.Goals as goal

pub returns-clause-width : goal.returns-clause-width
returns-clause-width c =
    let head = c.args.header.now in
    let r = row_at head.order head.columns c.args.bytes.now c.args.at in
    length-row head.order head.columns c.args.bytes.now c.args.at (row_of r) (past_of r) (read_is r c.requires.read)
