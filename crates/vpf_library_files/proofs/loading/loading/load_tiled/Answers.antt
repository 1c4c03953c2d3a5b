use Rattle.std.proofs.lemmas.Result.{err_from_is_err_and}
use Rattle.vpf_library_files.specs.Loading.Loading.{tiles_files, tileref_name}
use Rattle.vpf_library_files.proofs.loading.CountLemmas.{paths_named}
use Rattle.vpf_library_files.proofs.loading.TiledLemmas.{tiled_comes, tiled_stops}
use Rattle.vpf_library_files.proofs.loading.loading.load_tiled.Goals as goal

pub returns-in_err-load_tiles-clause-reads : goal.returns-in_err-load_tiles-clause-reads
returns-in_err-load_tiles-clause-reads g c cov is =
    let p = err_from_is_err_and c.from_residual-in_err-load_tiles.result c.from_residual-in_err-load_tiles.ensures.1 in
    rw (p.1, p.2) (tiled_stops (g.T.Tree.files c.args.tree.now) (g.T.Tree.files c.load_tileref.new.tree) c.args.lib.now cov c.args.folder.now c.args.loaded.now
    c.load_tileref.new.loaded c.load_tiles.new.loaded c.load_tileref.new.tables c.load_tiles.new.tables c.in_ok-paths.paths c.in_err-load_tiles.field-0.0
    c.load_tileref.ensures.files is c.in_ok-paths.ensures.reads c.in_err-load_tiles.ensures.reads)

pub returns-clause-reads : goal.returns-clause-reads
returns-clause-reads g c cov is =
    rw c.naming.ensures (tiled_comes c.stops_decide.ensures (g.T.Tree.files c.args.tree.now) (g.T.Tree.files c.load_tileref.new.tree) c.args.lib.now cov c.args.folder.now c.args.loaded.now
    c.load_tileref.new.loaded c.load_tiles.new.loaded c.load_tileref.new.tables c.load_tiles.new.tables c.in_ok-paths.paths c.in_ok-load_tiles.field-0
    c.load_tileref.ensures.files is c.if-not-branch.false c.in_ok-paths.ensures.reads c.in_ok-load_tiles.ensures.reads)

pub naming-requires : goal.naming-requires
naming-requires g c =
    paths_named c.spelled_is_opened.ensures c.opened_is_read.ensures (tileref_name c.args.lib.now) c.in_ok-paths.ensures.reads.value c.load_tileref.new.tables c.load_tiles.new.tables
    (tiles_files c.in_ok-load_tiles.ensures.reads.value) c.in_ok-paths.paths c.in_ok-paths.ensures.reads.is c.in_ok-load_tiles.ensures.reads.is.behind
