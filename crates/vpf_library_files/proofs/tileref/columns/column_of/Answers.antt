use Rattle.std.proofs.lemmas.Result.{err_from_is_err_and}
use Rattle.vpf_library_files.proofs.tileref.FindingLemmas.{stops_alone}
use Rattle.vpf_library_files.proofs.tileref.columns.column_of.Goals as goal

pub returns-in_err-columns-clause-first : goal.returns-in_err-columns-clause-first
returns-in_err-columns-clause-first c =
    let p = err_from_is_err_and c.from_residual.result c.from_residual.ensures.1 in
    let e = c.in_err-columns.field-0.0 in
    rw (p.1, p.2)
    (stops_alone e c.args.header.now.columns c.args.role.now c.from_ref.result.now c.from_ref.ensures.value c.in_err-columns.ensures.first)
