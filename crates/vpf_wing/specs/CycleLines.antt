-- What disagrees in the loops, wings, cycles, rings and nodes of a tile.
use Rattle.std.specs.Prelude.{ℕ, zero, suc, pos, ◌+◌, ◌-◌, ◌*◌, not, ◌||◌, ◌==◌, is_some, if◌then◌else◌, List, [], Option, None, length, map}
use Rattle.std.specs.Option.{option_map, unwrap_or}
use Rattle.vpf_value.specs.Values.{Value}
use Rattle.vpf_darts.specs.declared.darts.Dart.{Dart}
use Rattle.vpf_darts.specs.Cycles.{count_of}
use Rattle.vpf_findings.specs.declared.finding.SeenWord.TheVariants as words
use Rattle.vpf_findings.specs.Findings.{NumberSeen, WordSeen, Disagreement}
use Rattle.vpf_findings.specs.Firsts.{◌or◌, unless, where_holds, first_over, first_of_rows}
use Rattle.vpf_prims.specs.declared.rows.Edge.{Edge}
use Rattle.vpf_prims.specs.declared.citing.Citation.TheVariants as cites
use Rattle.vpf_prims.specs.Lists.{kth, first_item}
use Rattle.vpf_prims.specs.References.{cell_at, id_of}
use Rattle.vpf_prims.specs.Edges.{EdgesAt, edge_columns}
use Rattle.vpf_prims.specs.Primitives.{FacePrimitive, RingPrimitive, NodePrimitive, Primitives, own_edges}
use Rattle.vpf_prims.specs.Reading.{PrimitiveTables, primitives_of}
use Rattle.vpf_prims.specs.Tables.{TileTables, edg_at, at_citation, cited_cell, cited_column}
use Rattle.vpf_wing.specs.declared.rings.Ring.{Ring}
use Rattle.vpf_wing.specs.Nexts.{dart_at, edge_at, face}
use Rattle.vpf_wing.specs.Places.{least_place, place_seen, tails, turn_size}
use Rattle.vpf_wing.specs.Wings.{wings_finding}

-- a loop with one face on both sides
abbrev pub loop_line : ℕ → TileTables → ℕ → Edge → Option Disagreement
loop_line t T k e =
    unless (not (e.start_node == e.end_node) || not (e.right_face == e.left_face))
    (at_citation t T cites.LeftFace 2 k (cited_cell T.tables cites.LeftFace k) (WordSeen words.Other))

-- the first finding on loops
abbrev pub loops_finding : ℕ → TileTables → Option Disagreement
loops_finding t T = first_of_rows (loop_line t T) 1 (own_edges (primitives_of T.tables))

-- the cell of a dart's wing, as its row has it
abbrev pub wing_cell : PrimitiveTables → Dart → Value
wing_cell tables d =
    let column = cited_column tables (if d.minus then cites.LeftEdge else cites.RightEdge) in
    cell_at (kth tables.edg.rows d.edge []) column.place

-- one face on both sides of an edge, and two cycles
abbrev pub sides_line : ℕ → TileTables → List Edge → ℕ → Edge → Option Disagreement
sides_line t T edges k e =
    let plus = least_place edges (2 * (k - 1)) in
    let minus = least_place edges (2 * (k - 1) + 1) in
    unless (not (e.right_face == e.left_face) || (plus == minus))
    (at_citation t T cites.LeftFace 3 k (place_seen t minus) (place_seen t plus))

-- the number of the first ring of a face, by the faces of the rings
abbrev pub first_ring : List ℕ → ℕ → ℕ
first_ring faces f = first_item (λ x. x == f) faces

-- a face doesn't name its first ring
abbrev pub pointer_line : ℕ → TileTables → List ℕ → ℕ → ℕ → Option Disagreement
pointer_line t T faces f pointer =
    unless (pointer == first_ring faces f)
    (at_citation t T cites.RingPtr 3 f (NumberSeen (pos pointer)) (NumberSeen (pos (first_ring faces f))))

-- the place of the dart of a ring's start edge that has the ring's face
unfoldable pub ring_dart : List Edge → Ring → Option ℕ
ring_dart edges ring =
    let plus = 2 * (ring.start_edge - 1) in
    where_holds (face edges (dart_at plus) == ring.face) plus or where_holds (face edges (dart_at (plus + 1)) == ring.face) (plus + 1)

-- the cycle of a ring, by the place of its least dart; the number of darts where the ring has none
unfoldable pub ring_cycle : List Edge → Ring → ℕ
ring_cycle edges ring = unwrap_or (option_map (least_place edges) (ring_dart edges ring)) (2 * length edges)

-- a cycle, which begins with the dart at this place, has no ring; cycles are those of the rings
abbrev pub ringless_line : ℕ → TileTables → List Edge → List ℕ → ℕ → Option Disagreement
ringless_line t T edges cycles p =
    unless (not (least_place edges p == p) || not (first_item (λ c. c == p) cycles == 0))
    (at_citation t T cites.StartEdge 3 0 (WordSeen words.Absent) (place_seen t p))

-- an earlier ring, but not the one before, has the face of ring r
abbrev pub apart_line : ℕ → TileTables → List ℕ → ℕ → Ring → Option Disagreement
apart_line t T faces r ring =
    unless ((first_ring faces ring.face == r) || (kth faces (r - 1) 0 == ring.face))
    (at_citation t T cites.FaceId 3 r (NumberSeen (pos ring.face)) (NumberSeen (pos (kth faces (r - 1) 0))))

-- no dart of the start edge has the ring's face
abbrev pub start_line : ℕ → TileTables → List Edge → ℕ → Ring → Option Disagreement
start_line t T edges r ring =
    unless (is_some (ring_dart edges ring))
    (at_citation t T cites.StartEdge 3 r (cited_cell T.tables cites.StartEdge r) (WordSeen words.Dart))

-- an earlier ring has the cycle of ring r
abbrev pub twice_line : ℕ → TileTables → List Edge → List ℕ → ℕ → Ring → Option Disagreement
twice_line t T edges cycles r ring =
    let first = first_item (λ c. c == ring_cycle edges ring) cycles in
    unless (first == r) (at_citation t T cites.StartEdge 3 r (cited_cell T.tables cites.StartEdge r) (NumberSeen (pos first)))

-- the lines on ring r
abbrev pub ring_lines : ℕ → TileTables → List Edge → (faces cycles : List ℕ) → ℕ → Ring → Option Disagreement
ring_lines t T edges faces cycles r ring =
    apart_line t T faces r ring
    or start_line t T edges r ring
    or twice_line t T edges cycles r ring

-- the edge that a node names isn't at it
abbrev pub at_node_line : ℕ → TileTables → List Edge → (n edge : ℕ) → Option Disagreement
at_node_line t T edges n edge =
    unless (((edge_at edges edge).start_node == n) || ((edge_at edges edge).end_node == n))
    (at_citation t T cites.FirstEdge 3 n (cited_cell T.tables cites.FirstEdge n) (WordSeen words.Node))

-- the darts at a node, of which the first has this number from 1, aren't one cycle of turn; where none begins there, nothing is said
abbrev pub turn_line_at : ℕ → TileTables → List Edge → ℕ → ℕ → Option Disagreement
turn_line_at t T edges n zero = None
turn_line_at t T edges n (suc p) =
    unless (turn_size edges p == count_of n (tails edges))
    (at_citation t T cites.FirstEdge 3 n (NumberSeen (pos (turn_size edges p))) (NumberSeen (pos (count_of n (tails edges)))))

-- the node isn't one cycle of turn
abbrev pub turn_line : ℕ → TileTables → List Edge → ℕ → Option Disagreement
turn_line t T edges n = turn_line_at t T edges n (first_item (λ x. x == n) (tails edges))

-- the lines on a node
abbrev pub node_lines : ℕ → TileTables → List Edge → (n edge : ℕ) → Option Disagreement
node_lines t T edges n edge = at_node_line t T edges n edge or turn_line t T edges n

-- the first rings of the faces, the rings and the first edges of the nodes of a tile, by their own numbers
abbrev pub own_pointers : Primitives → List ℕ
own_pointers c = map (λ (f : FacePrimitive). id_of f.ring_ptr) c.faces

-- a ring so
abbrev pub own_ring : RingPrimitive → Ring
own_ring r = record { face = id_of r.face; start_edge = id_of r.start_edge }

abbrev pub own_rings : Primitives → List Ring
own_rings c = map own_ring c.rings

abbrev pub own_first_edges : Primitives → List ℕ
own_first_edges c = map (λ (n : NodePrimitive). id_of n.first_edge) c.nodes

-- the faces of rings
abbrev pub faces_of_rings : List Ring → List ℕ
faces_of_rings rings = map (λ (ring : Ring). ring.face) rings

-- the first finding on the faces and rings of a tile
abbrev pub rings_finding : ℕ → TileTables → List Edge → List ℕ → List Ring → Option Disagreement
rings_finding t T edges pointers rings =
    first_of_rows (pointer_line t T (faces_of_rings rings)) 1 pointers
    or first_over (ringless_line t T edges (map (ring_cycle edges) rings)) 0 (2 * length edges)
    or first_of_rows (ring_lines t T edges (faces_of_rings rings) (map (ring_cycle edges) rings)) 1 rings

-- the columns of the edges of a tile
abbrev pub tile_columns : ℕ → TileTables → EdgesAt
tile_columns t T = edge_columns (edg_at t T) T.tables.edg.head.columns

-- the first finding on the wings, cycles, rings and nodes of a tile; cycles are looked at only where the wings hold
unfoldable pub cycles_finding : ℕ → TileTables → Option Disagreement
cycles_finding t T =
    let c = primitives_of T.tables in
    let edges = own_edges c in
    wings_finding (tile_columns t T) (wing_cell T.tables) edges
    or first_of_rows (sides_line t T edges) 1 edges
    or rings_finding t T edges (own_pointers c) (own_rings c)
    or first_of_rows (node_lines t T edges) 1 (own_first_edges c)
