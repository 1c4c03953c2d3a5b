use Rattle.std.proofs.Common.{◌∙◌}
use Rattle.std.proofs.lemmas.Result.{err_from_is_err_and}
use Rattle.vpf_table_commands.specs.Rows.{column_answer, grid_rows_answer, with_index}
use Rattle.vpf_table_commands.proofs.selecting.rows_of_varying.Goals as goal

pub returns-in_err-kept-clause-told : goal.returns-in_err-kept-clause-told
returns-in_err-kept-clause-told g c files e =
    let p = err_from_is_err_and c.from_residual-in_err-kept.result c.from_residual-in_err-kept.ensures.1 in
    let request = c.args.request.now in
    let over = column_answer files request in
    let named = c.as_str-2.ensures ∙ (rw c.as_str.ensures at c.in_ok-name.ensures) in
    rw (p.1, p.2) (rw named at (c.in_err-kept.ensures.told files e (with_index over request c.args.file.bytes) (grid_rows_answer over request c.args.file.grid)))
