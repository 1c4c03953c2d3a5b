use Rattle.std.proofs.Common.{◌∙◌}
use Rattle.std.proofs.lemmas.Result.{err_from_is_err_and}
use Rattle.vpf_library_files.proofs.loading.TileLemmas.{edges_add, rest_stops, tile_comes}
use Rattle.vpf_library_files.proofs.loading.loading.tiles.load_tile.Goals as goal

pub returns-in_err-load_rest-clause-reads : goal.returns-in_err-load_rest-clause-reads
returns-in_err-load_rest-clause-reads g c =
    let p = err_from_is_err_and c.from_residual-in_err-load_rest.result c.from_residual-in_err-load_rest.ensures.1 in
    let stop = c.in_err-load_rest.field-0.0 in
    let there = c.if-not-branch.false in
    let edg = edges_add c.args.folder.now (g.T.Tree.files c.args.tree.now) c.args.loaded.now c.add_optional.new.loaded c.args.tables.now
    c.add_optional.new.tables c.in_ok-add_optional.field-0 there c.in_ok-add_optional.ensures.reads in
    rw (p.1, p.2) (λ held e. rest_stops held c.args.folder.now c.args.loaded.now c.add_optional.new.loaded c.load_rest.new.loaded stop edg.0 (edg.2 held e)
    (c.in_err-load_rest.ensures.reads edg.0 c.args.tables.now edg.1 held (c.add_optional.ensures.only.files ∙ e)))

pub returns-clause-reads : goal.returns-clause-reads
returns-clause-reads g c =
    let there = c.if-not-branch.false in
    let edg = edges_add c.args.folder.now (g.T.Tree.files c.args.tree.now) c.args.loaded.now c.add_optional.new.loaded c.args.tables.now
    c.add_optional.new.tables c.in_ok-add_optional.field-0 there c.in_ok-add_optional.ensures.reads in
    tile_comes (g.T.Tree.files c.args.tree.now) (g.T.Tree.files c.add_optional.new.tree) c.args.folder.now c.args.loaded.now c.add_optional.new.loaded
    c.load_rest.new.loaded c.args.tables.now c.add_optional.new.tables c.load_rest.new.tables c.add_optional.ensures.only.files edg
    (c.in_ok-load_rest.ensures.reads edg.0 c.args.tables.now edg.1)
