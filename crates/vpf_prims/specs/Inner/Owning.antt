-- What the rows of a tile name by their numbers in their own tile is there.
use Rattle.std.specs.Prelude.{ℕ, ◌≤◌, length}
use Rattle.vpf_prims.specs.Lists.{kth}
use Rattle.vpf_prims.specs.Numbering.{IsRowOf}
use Rattle.vpf_prims.specs.Primitives.{EdgePrimitive, RingPrimitive, Primitives, absent_edge, absent_entity, absent_face, absent_node, absent_ring, entities_in}
use Rattle.vpf_prims.specs.References.{id_of}
use Rattle.std.specs.Prelude.{Some}

-- the nodes, faces and wings of an edge are those of the tile
pub record OwnsEdge (c : Primitives) (e : EdgePrimitive) : Type 0 where
  pub start_node : IsRowOf (length c.nodes) (id_of e.start_node)
  pub end_node : IsRowOf (length c.nodes) (id_of e.end_node)
  pub right_face : IsRowOf (length c.faces) (id_of e.right_face)
  pub left_face : IsRowOf (length c.faces) (id_of e.left_face)
  pub right_edge : IsRowOf (length c.edges) (id_of e.right_edge)
  pub left_edge : IsRowOf (length c.edges) (id_of e.left_edge)

-- the face of a ring, and its edge
pub record OwnsRing (c : Primitives) (r : RingPrimitive) : Type 0 where
  pub face : IsRowOf (length c.faces) (id_of r.face)
  pub start_edge : IsRowOf (length c.edges) (id_of r.start_edge)

-- all that the rows of a tile name is there, and the universe is
pub record NamesItsOwn (c : Primitives) : Type 0 where
  pub edges : (k : ℕ) → IsRowOf (length c.edges) k → OwnsEdge c (kth c.edges k absent_edge)
  pub ring_ptrs : (k : ℕ) → IsRowOf (length c.faces) k → id_of (kth c.faces k absent_face).ring_ptr ≤ length c.rings
  pub rings : (k : ℕ) → IsRowOf (length c.rings) k → OwnsRing c (kth c.rings k absent_ring)
  pub first_edges : (k : ℕ) → IsRowOf (length c.nodes) k → IsRowOf (length c.edges) (id_of (kth c.nodes k absent_node).first_edge)
  pub entities : (k : ℕ) → IsRowOf (length (entities_in (Some c))) k → IsRowOf (length c.faces) (id_of (kth (entities_in (Some c)) k absent_entity).containing_face)
  pub universe : 1 ≤ length c.faces
