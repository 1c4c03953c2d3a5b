-- Ids and references: what the rows of a coverage name is there.
use Rattle.std.specs.Prelude.{◌≡◌, ◌≢◌, ◌⊎◌, ℕ, ◌≤◌, true, if◌then◌else◌, ◌==◌, length, Option, Some}
use Rattle.vpf_triplet.specs.declared.triplets.Triplet.{Triplet}
use Rattle.vpf_prims.specs.Lists.{kth}
use Rattle.vpf_prims.specs.References.{plain}
use Rattle.vpf_prims.specs.Primitives.{EdgePrimitive, FacePrimitive, RingPrimitive, NodePrimitive, EntityPrimitive, Library, cross, absent_edge, absent_face, absent_ring, absent_node, absent_entity, tile_edges, tile_faces, tile_rings, tile_nodes, tile_entities, edge_count, face_count, ring_count, node_count, has_tables}

-- k is the number of one of so many rows
abbrev pub IsRowOf : ℕ → ℕ → Type 0
IsRowOf count k = (1 ≤ k) × (k ≤ count)

-- a reference within the tile, to a number from low to last
pub record IsPlain (low last : ℕ) (r : Triplet) : Type 0 where
  pub id : ℕ
  pub is : r ≡ plain id
  pub from_low : low ≤ id
  pub to_last : id ≤ last

-- a reference to a thing of the tile that goes on in another tile, which has tables; its number there is low at least
pub record IsCross (L : Library) (count : ℕ → ℕ) (t low : ℕ) (r : Triplet) : Type 0 where
  pub id : ℕ
  pub tile : ℕ
  pub ext : ℕ
  pub is : r ≡ cross id tile ext
  pub here : IsRowOf (count t) id
  pub other : tile ≢ t
  pub there : has_tables L tile ≡ true
  pub from_low : low ≤ ext
  pub to_last : ext ≤ count tile
  pub of_tiles : L.is_tiled ≡ true

-- a reference to one of the rows that a tile has so many of
abbrev pub IsReference : Library → (ℕ → ℕ) → ℕ → Triplet → Type 0
IsReference L count t r = IsPlain 1 (count t) r ⊎ IsCross L count t 1 r

-- a face of the tile, the universe, or a face of another tile, of which the universe is none
abbrev pub IsFace : Library → ℕ → Triplet → Type 0
IsFace L t r = IsPlain 1 (face_count L t) r ⊎ (IsCross L (face_count L) t 2 r × (r.id ≡ Some 1))

-- the mark says whether the edge is a line between tiles
abbrev pub IsLineMark : Option ℕ → Type 0
IsLineMark mark = (mark ≡ Some 0) ⊎ (mark ≡ Some 1)

-- edge k has its number, and what it names is there
pub record IsEdgeOf (L : Library) (t k : ℕ) (e : EdgePrimitive) : Type 0 where
  pub id : e.id ≡ Some k
  pub start_node : IsReference L (node_count L) t e.start_node
  pub end_node : IsReference L (node_count L) t e.end_node
  pub right_face : IsFace L t e.right_face
  pub left_face : IsFace L t e.left_face
  pub right_edge : IsReference L (edge_count L) t e.right_edge
  pub left_edge : IsReference L (edge_count L) t e.left_edge
  pub mark : IsLineMark e.mark

-- face k has its number, and its first ring is there; the universe may have none
pub record IsFaceOf (L : Library) (t k : ℕ) (f : FacePrimitive) : Type 0 where
  pub id : f.id ≡ Some k
  pub ring_ptr : IsPlain (if k == 1 then 0 else 1) (ring_count L t) f.ring_ptr

-- ring k has its number, and its face and edge are there
pub record IsRingOf (L : Library) (t k : ℕ) (r : RingPrimitive) : Type 0 where
  pub id : r.id ≡ Some k
  pub face : IsPlain 1 (face_count L t) r.face
  pub start_edge : IsPlain 1 (edge_count L t) r.start_edge

-- node k has its number, and its edge is there
pub record IsNodeOf (L : Library) (t k : ℕ) (n : NodePrimitive) : Type 0 where
  pub id : n.id ≡ Some k
  pub first_edge : IsPlain 1 (edge_count L t) n.first_edge

-- entity node k has its number, and its face is there
pub record IsEntityOf (L : Library) (t k : ℕ) (n : EntityPrimitive) : Type 0 where
  pub id : n.id ≡ Some k
  pub containing_face : IsPlain 1 (face_count L t) n.containing_face

-- the rows of a tile are numbered from 1, what they name is there, and the universe is
pub record IsNumbered (L : Library) (t : ℕ) : Type 0 where
  pub edges : (k : ℕ) → IsRowOf (edge_count L t) k → IsEdgeOf L t k (kth (tile_edges L t) k absent_edge)
  pub faces : (k : ℕ) → IsRowOf (face_count L t) k → IsFaceOf L t k (kth (tile_faces L t) k absent_face)
  pub rings : (k : ℕ) → IsRowOf (ring_count L t) k → IsRingOf L t k (kth (tile_rings L t) k absent_ring)
  pub nodes : (k : ℕ) → IsRowOf (node_count L t) k → IsNodeOf L t k (kth (tile_nodes L t) k absent_node)
  pub entities : (k : ℕ) → IsRowOf (length (tile_entities L t)) k → IsEntityOf L t k (kth (tile_entities L t) k absent_entity)
  pub universe : 1 ≤ face_count L t
