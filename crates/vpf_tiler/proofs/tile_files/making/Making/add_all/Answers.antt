use Rattle.std.proofs.Common.{◌<◌, arith}
use Rattle.std.proofs.lemmas.Result.{err_from_is_err_and}
use Rattle.vpf_cutting.specs.Inner.Cuts.{plan_by}
use Rattle.vpf_tiler.specs.TileFiles.Tables.{tables_if_made}
use Rattle.vpf_tiler.proofs.tile_files.LibraryLemmas.{tiles_fail, tiles_more}
use Rattle.vpf_tiler.proofs.tile_files.making.Making.add_all.Goals as goal

pub returns-in_err-add_if_made : goal.returns-in_err-add_if_made
returns-in_err-add_if_made c =
    let p = err_from_is_err_and c.from_residual.result c.from_residual.ensures.1 in
    let m = c.args.self.now in
    let below : c.loop-below.below < m.cut.now.tiles = omega (arith, c.loop-below-test.true, c.tiles-below-end.ensures.value) in
    rw (p.1, p.2) (tiles_fail (tables_if_made c.args.cov.now c.args.paths.now m.forms m.cut.now.source (plan_by m.cut.now.plan) m.cut.now.tiles) c.loop-below.below m.cut.now.tiles
    c.args.files.now.items c.loop-below.files.items c.in_err-add_if_made.field-0.0 below c.loop-below.invariant c.in_err-add_if_made.ensures)

pub loop-below-preserved : goal.loop-below-preserved
loop-below-preserved c =
    let m = c.args.self.now in
    tiles_more (tables_if_made c.args.cov.now c.args.paths.now m.forms m.cut.now.source (plan_by m.cut.now.plan) m.cut.now.tiles) c.loop-below.below
    c.args.files.now.items c.loop-below.files.items c.add_if_made.new.files.items c.loop-below.invariant c.in_ok-add_if_made.ensures
