use Rattle.std.proofs.Common.{[]}
use Rattle.vpf_table.specs.Canonical.{FitsRow}
use Rattle.vpf_primitive_tables.proofs.table_forms.CountedRows.{kth_all}
use Rattle.vpf_primitive_tables.proofs.table_forms.rows.row_of.Goals as goal

pub returns-clause-fits : goal.returns-clause-fits
returns-clause-fits c =
    let all = rw c.rows-rows.ensures.rows at c.rows-rows.ensures.fits in
    rw c.counted_row.ensures (kth_all (FitsRow c.args.table.now.head.columns) c.args.table.now.rows c.args.k [] c.requires all)
