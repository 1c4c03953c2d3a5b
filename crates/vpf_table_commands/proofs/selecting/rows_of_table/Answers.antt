use Rattle.vpf_table_commands.proofs.RowsFiles.{of_table}
use Rattle.vpf_table_commands.proofs.selecting.rows_of_table.Goals as goal

pub returns-in-Some-clause-told : goal.returns-in-Some-clause-told
returns-in-Some-clause-told g c files e =
    let at = rw c.as_str.ensures at (rw c.header.ensures at c.in-Some.ensures.at) in
    of_table _ files c.args.request.now c.args.table.now c.in-Some.c at (c.rows_of_column.ensures.told at.column at.there files e)
