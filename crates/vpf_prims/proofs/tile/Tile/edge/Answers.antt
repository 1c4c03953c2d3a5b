use Rattle.std.proofs.Common.{◌∙◌, map}
use Rattle.vpf_prims.specs.Tables.{edg_at}
use Rattle.vpf_prims.specs.Inner.Tiles.{tables_of}
use Rattle.vpf_prims.specs.Reading.{edge_in_row}
use Rattle.vpf_prims.proofs.EdgeLemmas.{edge_at, kept_said, said_at}
use Rattle.vpf_prims.proofs.tile.Tile.edge.Goals as goal

pub returns-in-None : goal.returns-in-None
returns-in-None c =
    let inside = c.self.inside in
    let row = rw (← c.self.view_is) at c.requires in
    let read = rw (c.self.invariant.edges, c.row_of.ensures.row) at c.row.ensures in
    rw (← c.self.view_is) (read ∙ edge_at (edg_at 0 (tables_of inside)) inside.views.edg.head.columns inside.views.edg.rows c.args.e row)

pub returns-in-Some : goal.returns-in-Some
returns-in-Some c =
    let inside = c.self.inside in
    let edg = inside.views.edg in
    let row = rw (← c.self.view_is) at c.requires in
    let said = kept_said (edg_at 0 (tables_of inside)) edg.head.columns inside.columns.edges c.in-Some.rows.items edg.rows c.self.invariant.edges (rw c.in-Some.is at c.self.invariant.columns.edge_rows) in
    rw (← c.self.view_is) (said_at c.in-Some.rows.items (map (edge_in_row edg.head.columns) edg.rows) c.args.e c.index.result.now said row c.index.ensures)
