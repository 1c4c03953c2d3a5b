use Rattle.std.proofs.Common.{List, Result, Vec, Global, subst}
use Rattle.std.proofs.lemmas.Result.{err_from_is_err_and}
use Rattle.vpf_base.specs.Results.{Meets}
use Rattle.vpf_source.specs.declared.file.File.{File}
use Rattle.vpf_tiler.specs.declared.errors.TileError.{TileError}
use Rattle.vpf_tiler.specs.Making.{tile_error_seen}
use Rattle.vpf_tiler.proofs.CutLemmas.{refused_told, tiled_is}
use Rattle.vpf_tiler.proofs.tiling.cut_files.Goals as goal

pub returns-in_err-cut : goal.returns-in_err-cut
returns-in_err-cut c =
    let p = err_from_is_err_and c.from_residual.result c.from_residual.ensures.1 in
    rw (p.1, p.2) (refused_told c.args.cov.now c.args.source.now.tables c.args.schema.now c.args.plan.now c.args.tileref.now c.len.result c.in_err-cut.field-0.0
    c.len.ensures.value c.in_err-cut.ensures.refused)

pub returns : goal.returns
returns c =
    subst (λ (o : Result (List File) TileError). Meets (λ (files : Vec File Global). files.items) tile_error_seen c.unkeyed_files_of_cut.result o)
    (tiled_is c.args.cov.now c.args.source.now.tables c.args.schema.now c.args.plan.now c.args.tileref.now c.len.result c.in_ok-cut.cut c.len.ensures.value
    c.in_ok-cut.ensures.refused c.in_ok-cut.ensures.cut) c.unkeyed_files_of_cut.ensures
