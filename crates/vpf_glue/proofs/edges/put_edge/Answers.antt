use Rattle.std.proofs.Common.{◌≡◌, List, [], ◌∷◌, ◌++◌, Some, true, sym, ap, ◌∙◌, subst}
use Rattle.std.specs.Prelude.{OnOk}
use Rattle.vpf_triplet.specs.declared.kinds.Kind.{Kind}
use Rattle.vpf_darts.specs.Darts.{edge_in, tile_dart_code, tile_in}
use Rattle.vpf_head.specs.Head.{Head}
use Rattle.vpf_table.specs.Grid.{Grid, Row}
use Rattle.vpf_prims.specs.Coverages.{CoverageTables}
use Rattle.vpf_prims.specs.Libraries.{library_of}
use Rattle.vpf_prims.specs.Reading.{PrimitiveTables}
use Rattle.vpf_wing.specs.Links.{links_of}
use Rattle.vpf_follow.specs.Following.{is_home}
use Rattle.vpf_write.specs.Inner.Tallies.{Holds}
use Rattle.vpf_write.specs.Revise.Revising.{FitsElsewhere, revised}
use Rattle.vpf_renumbering.specs.Glued.{glued_edge}
use Rattle.vpf_primitive_tables.specs.TableForms.Forms.{AreOfKind, EdgeValues, edge_kinds_of, edge_values_of, head_like}
use Rattle.vpf_primitive_tables.specs.Inner.TableForms.Models.{values_of_edge}
use Rattle.vpf_glue.specs.GluedTables.Grids.{row_in, whole_in}
use Rattle.vpf_glue.specs.Inner.Sources.{FitsEdges, IsOfTile}
use Rattle.vpf_glue.proofs.edges.put_edge.Goals as goal

pub edge_row-row-requires : goal.edge_row-row-requires
edge_row-row-requires c =
    subst (λ (v : CoverageTables). is_home (links_of (library_of v)) (tile_dart_code c.args.dart) ≡ true) (sym c.checked_of.ensures) c.requires.home

pub put-requires-clause-head : goal.put-requires-clause-head
put-requires-clause-head c = c.requires.head ∙ ap (λ (kind : Kind). head_like c.args.form.now.table (edge_kinds_of kind)) (sym c.requires.ids)

pub put-requires-clause-references : goal.put-requires-clause-references
put-requires-clause-references c = subst (λ (kind : Kind). AreOfKind kind (values_of_edge c.cells-cells.result)) (sym c.requires.ids) c.cells-cells.ensures.fits

pub put-requires-clause-others : goal.put-requires-clause-others
put-requires-clause-others c =
    let f = c.args.form.now in
    let of = subst (λ (v : CoverageTables). IsOfTile (λ (T : PrimitiveTables). Some T.edg) v c.args.form.now.table) (sym c.checked_of.ensures) c.requires.like in
    subst (λ (h : Head). FitsElsewhere (edge_values_of c.args.form.now.table.head.columns c.args.number (values_of_edge c.cells-cells.result)) h.columns c.edge_row-row.result) (sym c.requires.head)
    (c.edge_row-row.ensures.fits c.args.form.now.table of c.args.number (values_of_edge c.cells-cells.result))

pub returns-clause-put : goal.returns-clause-put
returns-clause-put c =
    let f = c.args.form.now in
    let x = tile_dart_code c.args.dart in
    let values = c.cells-cells.ensures.values (glued_edge (whole_in c.args.edges.now) c.args.number (tile_dart_code c.args.dart)) (c.names_of.ensures.numbers c.args.number) in
    let row = c.edge_row-row.ensures.row
    ∙ ap (λ (v : CoverageTables). row_in (λ (T : PrimitiveTables). T.edg) v (tile_in (tile_dart_code c.args.dart)) (edge_in (tile_dart_code c.args.dart))) c.checked_of.ensures in
    subst (λ (v : EdgeValues). OnOk c.put.result ((rows : List Row) → Holds c.args.made.now rows → Holds c.put.new.made
    (rows ++ revised (edge_values_of c.args.form.now.table.head.columns c.args.number v)
    (row_in (λ (T : PrimitiveTables). T.edg) c.args.edges.now (tile_in (tile_dart_code c.args.dart)) (edge_in (tile_dart_code c.args.dart))) ∷ []))) values
    (subst (λ (r : Row). OnOk c.put.result ((rows : List Row) → Holds c.args.made.now rows → Holds c.put.new.made
    (rows ++ revised (edge_values_of c.args.form.now.table.head.columns c.args.number (values_of_edge c.cells-cells.result)) r ∷ []))) row c.put.ensures.put)
