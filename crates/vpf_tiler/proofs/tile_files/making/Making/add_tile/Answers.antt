-- The tables are added one behind another, up to the first that isn't.
use Rattle.std.proofs.lemmas.Result.{err_from_is_err_and}
use Rattle.vpf_cutting.specs.Inner.Cuts.{plan_by}
use Rattle.vpf_primitive_tables.specs.TileTables.Grids.{edges_made, faces_made, nodes_made, rings_made}
use Rattle.vpf_tiler.proofs.tile_files.TileLemmas.{edges_fail, faces_fail, nodes_fail, rings_fail, tile_adds}
use Rattle.vpf_tiler.proofs.tile_files.making.Making.add_tile.Goals as goal

pub returns-in_err-add_table : goal.returns-in_err-add_table
returns-in_err-add_table c =
    let p = err_from_is_err_and c.from_residual-in_err-add_table.result c.from_residual-in_err-add_table.ensures.1 in
    let m = c.args.self.now in
    let plan = plan_by m.cut.now.plan in
    rw (p.1, p.2) (edges_fail c.args.folder.now m.forms m.cut.now.source plan c.args.tile c.in_err-add_table.field-0.0
    (c.in_err-add_table.ensures (edges_made m.forms.edg m.cut.now.source plan c.args.tile) c.edges-edges.ensures))

pub returns-in_err-add_table-2 : goal.returns-in_err-add_table-2
returns-in_err-add_table-2 c =
    let p = err_from_is_err_and c.from_residual-in_err-add_table-2.result c.from_residual-in_err-add_table-2.ensures.1 in
    let m = c.args.self.now in
    let plan = plan_by m.cut.now.plan in
    rw (p.1, p.2) (faces_fail c.args.folder.now m.forms m.cut.now.source plan c.args.tile c.in_err-add_table-2.field-0.0
    c.args.files.now.items c.add_table.new.files.items
    (c.in_ok-add_table.ensures (edges_made m.forms.edg m.cut.now.source plan c.args.tile) c.edges-edges.ensures)
    (c.in_err-add_table-2.ensures (faces_made m.forms.fac m.cut.now.source plan c.args.tile) c.faces-faces.ensures))

pub returns-in_err-add_table-3 : goal.returns-in_err-add_table-3
returns-in_err-add_table-3 c =
    let p = err_from_is_err_and c.from_residual-in_err-add_table-3.result c.from_residual-in_err-add_table-3.ensures.1 in
    let m = c.args.self.now in
    let plan = plan_by m.cut.now.plan in
    rw (p.1, p.2) (rings_fail c.args.folder.now m.forms m.cut.now.source plan c.args.tile c.in_err-add_table-3.field-0.0
    c.args.files.now.items c.add_table.new.files.items c.add_table-2.new.files.items
    (c.in_ok-add_table.ensures (edges_made m.forms.edg m.cut.now.source plan c.args.tile) c.edges-edges.ensures)
    (c.in_ok-add_table-2.ensures (faces_made m.forms.fac m.cut.now.source plan c.args.tile) c.faces-faces.ensures)
    (c.in_err-add_table-3.ensures (rings_made m.forms.rng m.cut.now.source plan c.args.tile) c.rings-written.ensures))

pub returns-in_err-add_table-4 : goal.returns-in_err-add_table-4
returns-in_err-add_table-4 c =
    let p = err_from_is_err_and c.from_residual-in_err-add_table-4.result c.from_residual-in_err-add_table-4.ensures.1 in
    let m = c.args.self.now in
    let plan = plan_by m.cut.now.plan in
    rw (p.1, p.2) (nodes_fail c.args.folder.now m.forms m.cut.now.source plan c.args.tile c.in_err-add_table-4.field-0.0
    c.args.files.now.items c.add_table.new.files.items c.add_table-2.new.files.items c.add_table-3.new.files.items
    (c.in_ok-add_table.ensures (edges_made m.forms.edg m.cut.now.source plan c.args.tile) c.edges-edges.ensures)
    (c.in_ok-add_table-2.ensures (faces_made m.forms.fac m.cut.now.source plan c.args.tile) c.faces-faces.ensures)
    (c.in_ok-add_table-3.ensures (rings_made m.forms.rng m.cut.now.source plan c.args.tile) c.rings-written.ensures)
    (c.in_err-add_table-4.ensures (nodes_made m.forms.cnd m.cut.now.source plan c.args.tile) c.nodes-nodes.ensures))

pub returns : goal.returns
returns c =
    let m = c.args.self.now in
    let plan = plan_by m.cut.now.plan in
    tile_adds c.args.folder.now m.forms m.cut.now.source plan c.args.tile c.args.files.now.items c.add_table.new.files.items c.add_table-2.new.files.items
    c.add_table-3.new.files.items c.add_table-4.new.files.items c.add_entities.new.files.items c.add_entities.result
    (c.in_ok-add_table.ensures (edges_made m.forms.edg m.cut.now.source plan c.args.tile) c.edges-edges.ensures)
    (c.in_ok-add_table-2.ensures (faces_made m.forms.fac m.cut.now.source plan c.args.tile) c.faces-faces.ensures)
    (c.in_ok-add_table-3.ensures (rings_made m.forms.rng m.cut.now.source plan c.args.tile) c.rings-written.ensures)
    (c.in_ok-add_table-4.ensures (nodes_made m.forms.cnd m.cut.now.source plan c.args.tile) c.nodes-nodes.ensures)
    c.add_entities.ensures
