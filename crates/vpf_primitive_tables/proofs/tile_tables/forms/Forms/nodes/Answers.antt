use Rattle.std.proofs.Common.{◌∙◌, ℕ, List, codes, length, ap, sym, subst}
use Rattle.std.specs.Prelude.{All}
use Rattle.vpf_prims.specs.Numbering.{IsRowOf}
use Rattle.vpf_prims.specs.Reading.{PrimitiveTables}
use Rattle.vpf_tiling.specs.Presence.{has_node, present_nodes}
use Rattle.vpf_tiling.specs.Ranks.{numbered}
use Rattle.vpf_tiling.specs.Tiles.{first_edge_at, tiled_edges}
use Rattle.vpf_cutting.specs.Inner.Cuts.{plan_by}
use Rattle.vpf_primitive_tables.proofs.table_forms.CountedRows.{made_of_numbers, rows_within}
use Rattle.vpf_primitive_tables.specs.Inner.TableForms.CountedLaws.{length-numbered}
use Rattle.vpf_primitive_tables.proofs.tile_tables.FormLemmas.{node_rows, written_like}
use Rattle.vpf_primitive_tables.proofs.tile_tables.forms.Forms.nodes.Goals as goal

pub write_pairs-requires-clause-rows : goal.write_pairs-requires-clause-rows
write_pairs-requires-clause-rows c =
    let cut = c.args.cut.now in
    let within = rows_within (has_node cut.source (plan_by cut.plan) c.args.tile) (length cut.source.nodes) in
    let here : All (IsRowOf (length cut.source.nodes)) c.nodes_in.result.now = subst (All (IsRowOf (length cut.source.nodes))) (sym c.nodes_in.ensures.nodes) within in
    subst (λ (n : ℕ). All (IsRowOf n) c.nodes_in.result.now) (node_rows cut.source c.self.inside c.args.self.now c.requires c.self.view_is) here

pub write_pairs-requires-clause-each : goal.write_pairs-requires-clause-each
write_pairs-requires-clause-each c =
    let cut = c.args.cut.now in
    let first = λ (k : ℕ). first_edge_at k (tiled_edges cut.source (plan_by cut.plan) c.args.tile) in
    let nodes = present_nodes cut.source (plan_by cut.plan) c.args.tile in
    let names = λ (k n : ℕ). first k in
    ap (λ (xs : List ℕ). length xs) (c.deref.ensures.value ∙ c.in_ok-first_edges.ensures.firsts ∙ sym (made_of_numbers first nodes)) ∙ length-numbered names nodes
    ∙ ap (λ (xs : List ℕ). length xs) (sym c.nodes_in.ensures.nodes)

pub returns : goal.returns
returns c =
    let cut = c.args.cut.now in
    let first = λ (k : ℕ). first_edge_at k (tiled_edges cut.source (plan_by cut.plan) c.args.tile) in
    let nodes = present_nodes cut.source (plan_by cut.plan) c.args.tile in
    let names = λ (k n : ℕ). first k in
    let told = c.deref.ensures.value ∙ c.in_ok-first_edges.ensures.firsts ∙ sym (made_of_numbers first nodes) ∙ ap (λ (xs : List ℕ). numbered names xs) (sym c.nodes_in.ensures.nodes) in
    written_like c.self.inside.cnd.name (codes "first_edge") c.self.inside.cnd.table c.args.self.now.cnd names c.nodes_in.result.now nodes c.write_pairs.result c.self.invariant.first_edge
    (ap (λ (t : PrimitiveTables). t.cnd) c.self.view_is) c.nodes_in.ensures.nodes (c.write_pairs.ensures names told)
