use Rattle.std.proofs.Common.{◌<◌, ◌+◌, List, length, sym, subst, ◌∙◌, arith}
use Rattle.std.proofs.lemmas.Result.{err_from_is_err_and}
use Rattle.vpf_prims.specs.Reading.{primitives_of}
use Rattle.vpf_prims.specs.Primitives.{NodePrimitive, absent_node}
use Rattle.vpf_prims.specs.References.{id_of}
use Rattle.vpf_wing.specs.CycleLines.{node_lines}
use Rattle.vpf_prims.specs.declared.rows.Edge.{Edge}
use Rattle.vpf_prims.specs.Edges.{IsEdge}
use Rattle.vpf_prims.specs.Lists.{kth}
use Rattle.vpf_wing.proofs.RangeLemmas.{first_edge_in}
use Rattle.vpf_wing.proofs.RowLemmas.{pass_item, stop_item}
use Rattle.vpf_wing.proofs.nodes.check_node_rows.Goals as goal

pub returns-in_err-check_node : goal.returns-in_err-check_node
returns-in_err-check_node c =
    let p = err_from_is_err_and c.from_residual.result c.from_residual.ensures.1 in
    let lines = node_lines c.args.number c.args.tile.now c.args.darts.now in
    let rows = (primitives_of c.args.tile.now.tables).nodes in
    let in' : c.loop-k.k < length rows = omega (arith, c.nodes-k-end.ensures.value) in
    rw (p.1, p.2) (sym c.loop-k.invariant ∙ stop_item lines (λ (n : NodePrimitive). id_of n.first_edge) rows c.loop-k.k absent_node _ in' (rw c.first_edge.ensures at c.in_err-check_node.ensures))

pub loop-k-preserved : goal.loop-k-preserved
loop-k-preserved c =
    let lines = node_lines c.args.number c.args.tile.now c.args.darts.now in
    let rows = (primitives_of c.args.tile.now.tables).nodes in
    let in' : c.loop-k.k < length rows = omega (arith, c.nodes-k-end.ensures.value) in
    pass_item lines (λ (n : NodePrimitive). id_of n.first_edge) rows c.loop-k.k absent_node in' (rw c.first_edge.ensures at c.in_ok-check_node.ensures) ∙ c.loop-k.invariant

pub check_node-requires-clause-edge : goal.check_node-requires-clause-edge
check_node-requires-clause-edge c =
    let nodes = (primitives_of c.args.tile.now.tables).nodes in
    let in' : c.loop-k.k < length nodes = omega (arith, c.nodes-k-end.ensures.value) in
    let e = first_edge_in (primitives_of c.args.tile.now.tables) c.names_its_own.ensures (c.loop-k.k + 1) (omega arith, omega arith) in
    rw c.first_edge.ensures (subst (λ (es : List Edge). IsEdge (length es) (id_of (kth nodes (c.loop-k.k + 1) absent_node).first_edge)) (sym c.requires.edges) e)
