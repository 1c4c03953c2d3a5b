use Rattle.std.proofs.Common.{[], ◌≡◌, ℕ, ◌+◌, true, List, ◌∷◌, ◌++◌, length, get_or, sym, ap, ◌∙◌, subst, arith}
use Rattle.std.specs.Prelude.{All}
use Rattle.std.proofs.lemmas.List.Elements.{All-get_or}
use Rattle.vpf_head.specs.Head.{Head}
use Rattle.vpf_prims.specs.Lists.{kth}
use Rattle.vpf_prims.specs.Numbering.{IsRowOf}
use Rattle.vpf_table.specs.Canonical.{FitsRow}
use Rattle.vpf_write.specs.Revise.Revising.{FitsElsewhere, revised}
use Rattle.vpf_tiling.specs.Presence.{has_edge, present_edges}
use Rattle.vpf_tiling.specs.Ranks.{numbered}
use Rattle.vpf_tiling.specs.Tiles.{tiled_edge}
use Rattle.vpf_write.specs.Writing.{Writes}
use Rattle.vpf_cutting.specs.Inner.Cuts.{plan_by}
use Rattle.vpf_triplet.specs.declared.kinds.Kind.{Kind}
use Rattle.vpf_table.specs.Grid.{Grid, Row}
use Rattle.vpf_write.specs.Inner.Tallies.{Holds}
use Rattle.vpf_primitive_tables.specs.Inner.TableForms.Models.{values_of_edge}
use Rattle.vpf_primitive_tables.specs.TableForms.Forms.{EdgeValues, edge_kinds_of, edge_values_of, head_like}
use Rattle.vpf_primitive_tables.specs.TileTables.Grids.{edge_values}
use Rattle.vpf_primitive_tables.proofs.table_forms.CountedRows.{rows_within}
use Rattle.vpf_primitive_tables.specs.Inner.TableForms.CountedLaws.{put_all, put_more}
use Rattle.vpf_primitive_tables.proofs.tile_tables.edges.write_edges.Goals as goal

pub edge-requires : goal.edge-requires
edge-requires c =
    let cut = c.args.cut.now in
    All-get_or (λ (edge : ℕ). has_edge cut.source (plan_by cut.plan) c.args.tile edge ≡ true) c.edges_in-edges.result.now c.loop-k.k 0 (omega arith) c.edges_in-edges.ensures.each

pub row_of-row-requires : goal.row_of-row-requires
row_of-row-requires c =
    let cut = c.args.cut.now in
    let within : All (IsRowOf (length cut.source.edges)) (present_edges cut.source (plan_by cut.plan) c.args.tile) = rows_within (has_edge cut.source (plan_by cut.plan) c.args.tile) (length cut.source.edges) in
    let here : All (IsRowOf (length cut.source.edges)) c.edges_in-edges.result.now = subst (All (IsRowOf (length cut.source.edges))) (sym c.edges_in-edges.ensures.edges) within in
    let row : IsRowOf (length cut.source.edges) (get_or c.edges_in-edges.result.now c.loop-k.k 0) = All-get_or (IsRowOf (length cut.source.edges)) c.edges_in-edges.result.now c.loop-k.k 0 (omega arith) here in
    subst (λ (n : ℕ). IsRowOf n (get_or c.edges_in-edges.result.now c.loop-k.k 0)) (c.requires.rows ∙ ap (λ (g : Grid). length g.rows) (sym c.table.ensures)) row

pub loop-k-preserved : goal.loop-k-preserved
loop-k-preserved c = record {
  head = c.in_ok-put.ensures.head ∙ c.loop-k.invariant.head;
  put =
      let f = c.args.form.now in
      let cut = c.args.cut.now in
      let edges = c.edges_in-edges.result.now in
      let k = c.loop-k.k in
      let edge = λ (k e : ℕ). tiled_edge cut.source (plan_by cut.plan) c.args.tile k e in
      let row = λ (k e : ℕ). revised (edge_values f.table.head.columns k (edge k e)) (kth f.table.rows e []) in
      let cells = c.id_cells-cells.ensures.values (edge (k + 1) (get_or edges k 0)) (c.edge.ensures.value (k + 1)) in
      let source = c.row_of-row.ensures.row ∙ ap (λ (g : Grid). kth g.rows (get_or edges k 0) []) c.table.ensures in
      let put = subst (λ (v : EdgeValues). (rows : List Row) → Holds c.loop-k.made rows → Holds c.put.new.made
      (rows ++ revised (edge_values_of f.table.head.columns (k + 1) v) (kth f.table.rows (get_or edges k 0) []) ∷ [])) cells (rw source at c.in_ok-put.ensures.put) in
      put_more c.loop-k.made c.put.new.made row edges k 0 (omega arith) put c.loop-k.invariant.put;
}

pub returns : goal.returns
returns c =
    let f = c.args.form.now in
    let cut = c.args.cut.now in
    let row = λ (k e : ℕ). revised (edge_values f.table.head.columns k (tiled_edge cut.source (plan_by cut.plan) c.args.tile k e)) (kth f.table.rows e []) in
    let done = rw c.edges_in-edges.ensures.edges at (put_all c.loop-k.made row c.edges_in-edges.result.now c.loop-k.k (omega arith) c.loop-k.invariant.put) in
    let head = c.loop-k.invariant.head ∙ ap (λ (kind : Kind). head_like f.table (edge_kinds_of kind)) c.requires.ids in
    subst (λ (h : Head). Writes (record { head = h; rows = numbered row (present_edges cut.source (plan_by cut.plan) c.args.tile) }) c.finish.result) head
    (c.finish.ensures.written (numbered row (present_edges cut.source (plan_by cut.plan) c.args.tile)) done)

pub put-requires-clause-others : goal.put-requires-clause-others
put-requires-clause-others c =
    let f = c.args.form.now in
    let columns = f.table.head.columns in
    let row = c.row_of-row.result in
    let v = values_of_edge c.id_cells-cells.result in
    let fits = subst (λ (g : Grid). FitsRow g.head.columns row) c.table.ensures c.row_of-row.ensures.fits in
    subst (λ (h : Head). FitsElsewhere (edge_values_of columns (c.loop-k.k + 1) v) h.columns row) (sym c.loop-k.invariant.head)
    (c.own_rows_fit.ensures.edges f.references columns row fits (c.loop-k.k + 1) v)
