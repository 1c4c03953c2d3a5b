use Rattle.std.proofs.Common.{List, map, ap, ◌∙◌}
use Rattle.std.proofs.lemmas.Result.{IfOk-weaker}
use Rattle.vpf_prims.specs.declared.rows.EdgeRow.{EdgeRow}
use Rattle.vpf_prims.specs.Edges.{own_numbers}
use Rattle.vpf_prims.specs.Reading.{primitives_of}
use Rattle.vpf_prims.specs.Tables.{edg_at}
use Rattle.vpf_prims.specs.Inner.Tiles.{tables_of}
use Rattle.vpf_prims.specs.Inner.Views.{tables_in_view}
use Rattle.vpf_prims.proofs.EdgeLemmas.{kept_said}
use Rattle.vpf_prims.proofs.OwnLemmas.{own_all, own_kept}
use Rattle.vpf_prims.proofs.tile.Tile.own_edges.Goals as goal

pub returns-in-Some : goal.returns-in-Some
returns-in-Some c =
    let inside = c.self.inside in
    let edg = inside.views.edg in
    let said = kept_said (edg_at 0 (tables_of inside)) edg.head.columns inside.columns.edges c.in-Some.rows.items edg.rows c.self.invariant.edges (rw c.in-Some.is at c.self.invariant.columns.edge_rows) in
    rw (← c.self.view_is) (IfOk-weaker c.numbers_in.result _ _ (λ edges is. is ∙ ap (λ (rows : List EdgeRow). map own_numbers rows) (c.deref.ensures.value ∙ said) ∙ own_kept (primitives_of (tables_in_view inside.views)).edges) c.numbers_in.ensures)

pub returns-in-None : goal.returns-in-None
returns-in-None c =
    let inside = c.self.inside in
    rw (← c.self.view_is) (IfOk-weaker c.numbers_of.result _ _ (λ edges is. own_all (edg_at 0 (tables_of inside)) inside.views.edg.head.columns inside.columns.edges edges.items inside.views.edg.rows c.self.invariant.edges is) c.numbers_of.ensures)
