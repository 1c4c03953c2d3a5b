use Rattle.std.proofs.Common.{rules}
use Rattle.std.proofs.lemmas.Result.{err_from_is_err_and}
use Rattle.vpf_tiler.proofs.tiling.files_with.Goals as goal

pub returns-in_err-paths : goal.returns-in_err-paths
returns-in_err-paths c =
    let p = err_from_is_err_and c.from_residual.result c.from_residual.ensures.1 in
    rw (p.1, p.2) (search rules)
