-- The cells of the rows of a tile that name other primitives.
use Rattle.std.specs.Prelude.{◌≡◌, ℕ, ◌==◌, if◌then◌else◌, List, length, map}
use Rattle.vpf_triplet.specs.Canonical.{HasSmallParts}
use Rattle.vpf_cutting.specs.declared.copies.edges.EdgeNodes.{EdgeNodes}
use Rattle.vpf_cutting.specs.Inner.Copies.Placing.{is_end}
use Rattle.vpf_prims.specs.Lists.{kth}
use Rattle.vpf_prims.specs.Primitives.{EdgePrimitive, Primitives}
use Rattle.vpf_tiling.specs.Presence.{present_nodes}
use Rattle.vpf_tiling.specs.Ranks.{up_to}
use Rattle.vpf_tiling.specs.Tiles.{first_edge_at, tiled_edges}
use Rattle.vpf_cutting.specs.declared.rows.CutEdge.{CutEdge}

-- the references of an edge
abbrev pub references_of : EdgePrimitive → CutEdge
references_of e = record {
  start_node = e.start_node;
  end_node = e.end_node;
  right_face = e.right_face;
  left_face = e.left_face;
  right_edge = e.right_edge;
  left_edge = e.left_edge;
}

-- the parts of all references of an edge are below 2^31
pub record HasSmallReferences (e : CutEdge) : Type 0 where
  pub start_node : HasSmallParts e.start_node
  pub end_node : HasSmallParts e.end_node
  pub right_face : HasSmallParts e.right_face
  pub left_face : HasSmallParts e.left_face
  pub right_edge : HasSmallParts e.right_edge
  pub left_edge : HasSmallParts e.left_edge

-- the first edge of a node once another edge is looked at: it stays where there is one
abbrev pub first_or : ℕ → ℕ → ℕ
first_or first edge = if first == 0 then edge else first

-- an edge is looked at for the nodes at its ends
pub record ArePutAt (ends : EdgeNodes) (edge : ℕ) (old new : List ℕ) : Type 0 where
  pub nodes : length new ≡ length old
  pub each : (node : ℕ) → kth new node 0 ≡ (if is_end ends node then first_or (kth old node 0) edge else kth old node 0)

-- for each node of a tile, in order, the number of its first edge there
abbrev pub first_edges_of : Primitives → (ℕ → ℕ) → ℕ → List ℕ
first_edges_of c plan t = map (λ k. first_edge_at k (tiled_edges c plan t)) (up_to (length (present_nodes c plan t)))
