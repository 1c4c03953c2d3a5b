use Rattle.std.proofs.lemmas.Result.{err_from_is_err_and}
use Rattle.vpf_library_commands.proofs.gluing.glue.Goals as goal

pub returns-in_err-has_file-clause-told : goal.returns-in_err-has_file-clause-told
returns-in_err-has_file-clause-told g c files e =
    let p = err_from_is_err_and c.from_residual-in_err-has_file.result c.from_residual-in_err-has_file.ensures.1 in
    rw (p.1, p.2, c.in_err-has_file.ensures.stops) tt
