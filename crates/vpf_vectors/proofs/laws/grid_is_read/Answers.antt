use Rattle.std.proofs.Common.{◌≡◌, ◌≤◌, Ok, codes, arith}
use Rattle.std.proofs.lemmas.List.Elements.{All-from_recursion}
use Rattle.vpf_table.specs.Canonical.{canonical_table}
use Rattle.vpf_table.specs.Reading.{table_of}
use Rattle.vpf_vectors.specs.Cells.Rows.{edge_rows, face_rows, ring_rows, node_rows, plan_rows}
use Rattle.vpf_vectors.specs.declared.headers.TheConstants.{FACES, NODES, PLAN}
use Rattle.vpf_vectors.specs.Heads.{face_head, node_head, plan_head}
use Rattle.vpf_vectors.specs.Library.{tiles, grid_tables}
use Rattle.vpf_vectors.specs.Tables.{grid_tileref, edge_table, ring_table, pair_table}
use Rattle.vpf_vectors.proofs.HeadLemmas.{faces_read, nodes_read, plan_read}
use Rattle.vpf_vectors.specs.Inner.HeadLaws.{faces_have_pairs, nodes_have_pairs, plan_has_pairs}
use Rattle.vpf_vectors.specs.Inner.LimitLaws.{tileref_limit, edges_limit, rings_limit, pairs_limit}
use Rattle.vpf_vectors.proofs.ReadLemmas.{tileref_is_writable, edges_are_writable, rings_are_writable, pairs_are_writable}
use Rattle.vpf_vectors.proofs.SmallLemmas.{edges_are_small, faces_are_small, rings_are_small, nodes_are_small, homes_are_small}
use Rattle.vpf_vectors.specs.Inner.SmallLaws.{few_tiles, edges_are_few, faces_are_few, rings_are_few, nodes_are_few, homes_are_few}
use Rattle.vpf_vectors.proofs.laws.grid_is_read.Goals as goal

pub returns : goal.returns
returns c = λ n even least most.
    let sound = c.read_headers_are_sound.ensures in
    let again = c.written_is_read.ensures.read_again in
    let some : 1 ≤ n = omega arith in
    let small_edges = edges_are_small c.darts_are_in_range.ensures c.nexts_are_a_map.ensures.map n some most in
    let tileref = again (grid_tileref (tiles n)) (tileref_is_writable sound (tiles n) (few_tiles n most)) (tileref_limit (tiles n) (few_tiles n most)) in
    let edg = again (edge_table (edge_rows n)) (edges_are_writable sound (edge_rows n) (edges_are_few n most) small_edges)
    (edges_limit (edge_rows n) (edges_are_few n most)) in
    let fac = again (pair_table face_head 1 (face_rows n))
    (pairs_are_writable sound (codes "Faces") (codes "Id") (codes "ring_ptr") (codes "Ring") FACES.now 61 1 (face_rows n) faces_read
    (faces_are_few n most) (faces_are_small n most))
    (pairs_limit face_head 1 (face_rows n) faces_have_pairs (faces_are_few n most)) in
    let rng = again (ring_table (ring_rows n)) (rings_are_writable sound (ring_rows n) (rings_are_few n most) (rings_are_small n most))
    (rings_limit (ring_rows n) (rings_are_few n most)) in
    let cnd = again (pair_table node_head 1 (node_rows n))
    (pairs_are_writable sound (codes "Nodes") (codes "Id") (codes "first_edge") (codes "Edge") NODES.now 63 1 (node_rows n) nodes_read
    (nodes_are_few n most) (nodes_are_small c.least_darts.ensures.nodes n some most))
    (pairs_limit node_head 1 (node_rows n) nodes_have_pairs (nodes_are_few n most)) in
    let plan = again (pair_table plan_head 2 (plan_rows n))
    (pairs_are_writable sound (codes "Plan") (codes "Face") (codes "tile_id") (codes "Tile") PLAN.now 61 2 (plan_rows n) plan_read
    (homes_are_few n most) (homes_are_small c.tiles_of_the_grid.ensures.faces n some most even))
    (pairs_limit plan_head 2 (plan_rows n) plan_has_pairs (homes_are_few n most)) in
    All-from_recursion (λ t. table_of (canonical_table t.1) ≡ Ok t.1) (grid_tables n) (tileref, (edg, (fac, (rng, (cnd, (plan, tt))))))
