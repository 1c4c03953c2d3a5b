use Rattle.std.proofs.Common.{sym, ◌∙◌}
use Rattle.vpf_table_commands.proofs.RowsFiles.{of_varying}
use Rattle.vpf_table_commands.proofs.selecting.rows_bytes.Goals as goal

pub returns-in-Ok-clause-told : goal.returns-in-Ok-clause-told
returns-in-Ok-clause-told g c files e =
    let varies = rw c.header.ensures at (sym c.varies.ensures ∙ c.if-varies.true) in
    of_varying _ files c.args.request.now c.args.bytes.now c.in-Ok.file.bytes c.in-Ok.file.grid c.in-Ok.ensures.bytes c.in-Ok.ensures.exact varies (c.rows_of_varying.ensures.told files e)
