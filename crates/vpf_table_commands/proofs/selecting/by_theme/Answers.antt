use Rattle.std.proofs.lemmas.Result.{err_from_is_err_and}
use Rattle.vpf_table_commands.specs.Rows.{scan_answer, theme_answer}
use Rattle.vpf_table_commands.proofs.selecting.by_theme.Goals as goal

pub returns-in_err-bytes-clause-told : goal.returns-in_err-bytes-clause-told
returns-in_err-bytes-clause-told g c column k files e =
    let p = err_from_is_err_and c.from_residual.result c.from_residual.ensures.1 in
    let request = c.args.request.now in
    let table = c.args.table.now in
    rw (p.1, p.2) (rw c.as_str.ensures at (c.in_err-bytes.ensures.told files e (theme_answer request table c.args.c column c.args.name.now) (scan_answer request table c.args.c column)))
