use Rattle.std.proofs.lemmas.Result.{err_from_is_err_and}
use Rattle.vpf_table_commands.specs.Swap.{swap_bytes_answer}
use Rattle.vpf_table_commands.proofs.swapping.swap.Goals as goal

pub returns-in_err-bytes-clause-told : goal.returns-in_err-bytes-clause-told
returns-in_err-bytes-clause-told g c files e =
    let p = err_from_is_err_and c.from_residual.result c.from_residual.ensures.1 in
    rw (p.1, p.2) (rw c.as_str-name.ensures at (c.in_err-bytes.ensures.told files e (swap_bytes_answer c.args.request.now.file c.args.request.now.out)))
