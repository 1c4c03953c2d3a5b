use Rattle.std.proofs.Common.{arith}
use Rattle.vpf_base.specs.Limits.{most_rows}
use Rattle.vpf_table.specs.Reading.{rows_at}
use Rattle.vpf_table.specs.Walking.{rows_of}
use Rattle.vpf_table.proofs.FixedWidth.{rows_read}
use Rattle.vpf_table.proofs.ReadRows.{read_rows_fit}
use Rattle.vpf_table.proofs.RowWidths.{rows_are_wide}
use Rattle.vpf_table.proofs.iteration.Rows.new.Goals as goal

pub returns-clause-width : goal.returns-clause-width
returns-clause-width c =
    let head = c.args.header.now in
    let r = rows_at most_rows head.order head.columns c.args.bytes.now c.args.at in
    rows_are_wide most_rows head.order head.columns c.args.bytes.now c.args.at (rows_of r) (rows_read r c.requires.read)

pub returns-clause-fits : goal.returns-clause-fits
returns-clause-fits c =
    let head = c.args.header.now in
    read_rows_fit c.cells_and_headers.ensures c.spelled_fits.ensures head.order head.columns c.args.bytes.now c.args.at (λ i. omega (arith, c.type_inv.bytes i)) c.requires.inside c.len-columns.ensures.sound.counts c.requires.read
