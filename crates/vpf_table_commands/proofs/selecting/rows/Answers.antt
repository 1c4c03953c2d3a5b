use Rattle.std.proofs.lemmas.Result.{err_from_is_err_and}
use Rattle.vpf_table_commands.specs.Rows.{rows_bytes_answer}
use Rattle.vpf_table_commands.proofs.selecting.rows.Goals as goal

pub returns-in_err-bytes-clause-told : goal.returns-in_err-bytes-clause-told
returns-in_err-bytes-clause-told g c files e =
    let p = err_from_is_err_and c.from_residual.result c.from_residual.ensures.1 in
    rw (p.1, p.2) (rw c.as_str.ensures at (c.in_err-bytes.ensures.told files e (rows_bytes_answer files c.args.request.now)))
