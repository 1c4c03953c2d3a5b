-- What the rows of a coverage say of the tiles beside its edges, of the nodes at their ends, and of the tiles of its entity nodes.
use Rattle.std.specs.Prelude.{ℕ}
use Rattle.vpf_cutting.specs.declared.copies.edges.EdgeNodes.{EdgeNodes}
use Rattle.vpf_cutting.specs.declared.copies.edges.EdgeTiles.{EdgeTiles}
use Rattle.vpf_prims.specs.Primitives.{EdgePrimitive, EntityPrimitive}
use Rattle.vpf_prims.specs.References.{id_of}

-- the tiles of the two faces of an edge, by a plan
abbrev pub tiles_beside : (ℕ → ℕ) → EdgePrimitive → EdgeTiles
tiles_beside plan e = record { left = plan (id_of e.left_face); right = plan (id_of e.right_face) }

-- the two nodes of an edge
abbrev pub nodes_at : EdgePrimitive → EdgeNodes
nodes_at e = record { start = id_of e.start_node; end = id_of e.end_node }

-- the tile of the face that an entity node lies in
abbrev pub tile_round : (ℕ → ℕ) → EntityPrimitive → ℕ
tile_round plan n = plan (id_of n.containing_face)
