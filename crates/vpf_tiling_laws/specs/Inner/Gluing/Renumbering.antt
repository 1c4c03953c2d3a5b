-- The renumbered coverage is the coverage with its edges, faces and nodes under new numbers.
use Rattle.std.specs.Prelude.{◌≡◌, ◌↔◌, ℕ, true, length, Some}
use Rattle.vpf_darts.specs.Darts.{code, edge_in}
use Rattle.vpf_prims.specs.Lists.{kth}
use Rattle.vpf_prims.specs.Numbering.{IsRowOf}
use Rattle.vpf_prims.specs.References.{plain}
use Rattle.vpf_prims.specs.Primitives.{EdgePrimitive, Primitives, absent_edge, absent_face, absent_node}
use Rattle.vpf_tiling.specs.Plans.{IsTileable}
use Rattle.vpf_tiling.specs.Presence.{dart_name, face_of, next_of, tail_of, untiled_links}
use Rattle.vpf_tiling_laws.specs.Gluing.Whole.{face_place, whole_named}
use Rattle.vpf_tiling_laws.specs.Gluing.Glued.{edge_number, face_number, node_number, renumbered}

-- the new number of an edge
abbrev pub new_edge : Primitives → (ℕ → ℕ) → ℕ → ℕ → ℕ
new_edge c plan tiles e = edge_number (whole_named c plan tiles) (dart_name c plan (code 0 e 0))

-- the new number of a face
abbrev pub new_face : Primitives → (ℕ → ℕ) → ℕ → ℕ → ℕ
new_face c plan tiles f = face_number (whole_named c plan tiles) (face_place c plan f)

-- the new number of the node where a dart begins
abbrev pub new_node : Primitives → (ℕ → ℕ) → ℕ → ℕ → ℕ
new_node c plan tiles d = node_number (whole_named c plan tiles) (dart_name c plan d)

-- the row of an edge under its new number
abbrev pub new_edge_row : Primitives → (ℕ → ℕ) → ℕ → ℕ → EdgePrimitive
new_edge_row c plan tiles e = kth (renumbered c plan tiles).edges (new_edge c plan tiles e) absent_edge

-- that row says of the new numbers what the row of the edge says of the old ones
pub record IsMoved (c : Primitives) (plan : ℕ → ℕ) (tiles e : ℕ) : Type 0 where
  pub number : IsRowOf (length (renumbered c plan tiles).edges) (new_edge c plan tiles e)
  pub id : (new_edge_row c plan tiles e).id ≡ Some (new_edge c plan tiles e)
  pub start_node : (new_edge_row c plan tiles e).start_node ≡ plain (new_node c plan tiles (code 0 e 0))
  pub end_node : (new_edge_row c plan tiles e).end_node ≡ plain (new_node c plan tiles (code 0 e 1))
  pub right_face : (new_edge_row c plan tiles e).right_face ≡ plain (new_face c plan tiles (face_of c (code 0 e 0)))
  pub left_face : (new_edge_row c plan tiles e).left_face ≡ plain (new_face c plan tiles (face_of c (code 0 e 1)))
  pub right_edge : (new_edge_row c plan tiles e).right_edge ≡ plain (new_edge c plan tiles (edge_in (next_of c (code 0 e 0))))
  pub left_edge : (new_edge_row c plan tiles e).left_edge ≡ plain (new_edge c plan tiles (edge_in (next_of c (code 0 e 1))))
  pub mark : (new_edge_row c plan tiles e).mark ≡ (kth c.edges e absent_edge).mark
  pub carried : (new_edge_row c plan tiles e).carried ≡ (kth c.edges e absent_edge).carried

-- each edge has a row under its new number, and no two edges have the same
abbrev pub EdgesAreMoved : Type 0
EdgesAreMoved = (c : Primitives) (plan : ℕ → ℕ) (tiles : ℕ) → IsTileable c plan tiles → (e : ℕ) → IsRowOf (length c.edges) e → IsMoved c plan tiles e

abbrev pub EdgesStayApart : Type 0
EdgesStayApart =
    (c : Primitives) (plan : ℕ → ℕ) (tiles : ℕ) → IsTileable c plan tiles → (e f : ℕ) → IsRowOf (length c.edges) e → IsRowOf (length c.edges) f
    → new_edge c plan tiles e ≡ new_edge c plan tiles f → e ≡ f

-- each face has a row under its new number with its carried cells
pub record IsFaceMoved (c : Primitives) (plan : ℕ → ℕ) (tiles f : ℕ) : Type 0 where
  pub number : IsRowOf (length (renumbered c plan tiles).faces) (new_face c plan tiles f)
  pub carried : (kth (renumbered c plan tiles).faces (new_face c plan tiles f) absent_face).carried ≡ (kth c.faces f absent_face).carried

abbrev pub FacesAreMoved : Type 0
FacesAreMoved = (c : Primitives) (plan : ℕ → ℕ) (tiles : ℕ) → IsTileable c plan tiles → (f : ℕ) → IsRowOf (length c.faces) f → IsFaceMoved c plan tiles f

abbrev pub FacesStayApart : Type 0
FacesStayApart =
    (c : Primitives) (plan : ℕ → ℕ) (tiles : ℕ) → IsTileable c plan tiles → (f g : ℕ) → IsRowOf (length c.faces) f → IsRowOf (length c.faces) g
    → new_face c plan tiles f ≡ new_face c plan tiles g → f ≡ g

-- the node where a dart begins has a row under its new number with its carried cells
pub record IsNodeMoved (c : Primitives) (plan : ℕ → ℕ) (tiles d : ℕ) : Type 0 where
  pub number : IsRowOf (length (renumbered c plan tiles).nodes) (new_node c plan tiles d)
  pub carried : (kth (renumbered c plan tiles).nodes (new_node c plan tiles d) absent_node).carried ≡ (kth c.nodes (tail_of c d) absent_node).carried

abbrev pub NodesAreMoved : Type 0
NodesAreMoved = (c : Primitives) (plan : ℕ → ℕ) (tiles : ℕ) → IsTileable c plan tiles → (d : ℕ) → (untiled_links c).has d ≡ true → IsNodeMoved c plan tiles d

-- darts begin at one node under the new numbers exactly where they do under the old ones
abbrev pub NodesStayApart : Type 0
NodesStayApart =
    (c : Primitives) (plan : ℕ → ℕ) (tiles : ℕ) → IsTileable c plan tiles → (d e : ℕ) → (untiled_links c).has d ≡ true → (untiled_links c).has e ≡ true
    → (new_node c plan tiles d ≡ new_node c plan tiles e) ↔ (tail_of c d ≡ tail_of c e)
