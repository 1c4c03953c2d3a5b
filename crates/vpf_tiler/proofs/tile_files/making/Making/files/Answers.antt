use Rattle.std.proofs.lemmas.Result.{err_from_is_err_and}
use Rattle.vpf_cutting.specs.Inner.Cuts.{plan_by}
use Rattle.vpf_primitive_tables.specs.TileTables.Grids.{tiles_made}
use Rattle.vpf_tiler.proofs.tile_files.LibraryLemmas.{library_fails, library_made, tileref_fails}
use Rattle.vpf_tiler.proofs.tile_files.making.Making.files.Goals as goal

pub returns-in_err-add_table : goal.returns-in_err-add_table
returns-in_err-add_table c =
    let p = err_from_is_err_and c.from_residual.result c.from_residual.ensures.1 in
    let m = c.args.self.now in
    rw (p.1, p.2) (tileref_fails c.args.cov.now m.forms m.cut.now.source (plan_by m.cut.now.plan) c.args.tileref.now c.in_err-add_table.field-0.0
    (c.in_err-add_table.ensures (tiles_made c.args.tileref.now) c.write_tiles-tiles.ensures))

pub returns-in_err-add_all : goal.returns-in_err-add_all
returns-in_err-add_all c =
    let p = err_from_is_err_and c.from_residual-in_err-add_all.result c.from_residual-in_err-add_all.ensures.1 in
    let m = c.args.self.now in
    rw (p.1, p.2) (library_fails c.args.cov.now c.args.paths.now m.forms m.cut.now.source (plan_by m.cut.now.plan) m.cut.now.tiles c.args.tileref.now c.new-files.result.items
    c.add_table.new.files.items c.in_err-add_all.field-0.0 c.requires.paths c.requires.tiles
    (c.in_ok-add_table.ensures (tiles_made c.args.tileref.now) c.write_tiles-tiles.ensures) c.in_err-add_all.ensures)

pub returns : goal.returns
returns c =
    let m = c.args.self.now in
    library_made c.args.cov.now c.args.paths.now m.forms m.cut.now.source (plan_by m.cut.now.plan) m.cut.now.tiles c.args.tileref.now c.new-files.result.items
    c.add_table.new.files.items c.add_all.new.files.items c.requires.paths c.requires.tiles c.new-files.ensures.items
    (c.in_ok-add_table.ensures (tiles_made c.args.tileref.now) c.write_tiles-tiles.ensures) c.in_ok-add_all.ensures
