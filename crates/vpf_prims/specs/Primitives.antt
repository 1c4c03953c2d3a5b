-- What the primitive tables of a coverage or of a tile say (MIL-STD-2407, 5.2.2, primitives).
use Rattle.std.specs.Prelude.{ℕ, Bool, true, false, ◌==◌, if◌then◌else◌, List, [], Option, Some, None, length, map}
use Rattle.std.specs.Option.{unwrap_or}
use Rattle.vpf_triplet.specs.declared.triplets.Triplet.{Triplet}
use Rattle.vpf_value.specs.Values.{Value}
use Rattle.vpf_prims.specs.declared.rows.Edge.{Edge}
use Rattle.vpf_prims.specs.declared.rows.EdgeRow.{EdgeRow}
use Rattle.vpf_prims.specs.References.{no_reference, id_of}

-- an edge: its id, its nodes and faces, the next edges about its end node and its start node, the mark of lines between
-- tiles, and the cells of the columns without a role, in table order
pub record EdgePrimitive : Type 0 where
  pub id : Option ℕ
  pub start_node : Triplet
  pub end_node : Triplet
  pub right_face : Triplet
  pub left_face : Triplet
  pub right_edge : Triplet
  pub left_edge : Triplet
  pub mark : Option ℕ
  pub carried : List Value

-- a face: its first ring
pub record FacePrimitive : Type 0 where
  pub id : Option ℕ
  pub ring_ptr : Triplet
  pub carried : List Value

-- a ring: its face, and the edge where its walk starts
pub record RingPrimitive : Type 0 where
  pub id : Option ℕ
  pub face : Triplet
  pub start_edge : Triplet

-- a connected node: an edge at it
pub record NodePrimitive : Type 0 where
  pub id : Option ℕ
  pub first_edge : Triplet
  pub carried : List Value

-- an entity node: the face that it lies in
pub record EntityPrimitive : Type 0 where
  pub id : Option ℕ
  pub containing_face : Triplet
  pub carried : List Value

-- the primitives of a tile, or of an untiled coverage; entity nodes may have no table
pub record Primitives : Type 0 where
  pub edges : List EdgePrimitive
  pub faces : List FacePrimitive
  pub rings : List RingPrimitive
  pub nodes : List NodePrimitive
  pub entities : Option (List EntityPrimitive)

-- a coverage by its tiles: those of a tiled one are numbered from 1 to the last, and an empty tile has no tables; an
-- untiled one is the tile 0 alone
pub record Library : Type 0 where
  pub is_tiled : Bool
  pub last : ℕ
  pub tile : ℕ → Option Primitives

-- the library of an untiled coverage
abbrev pub untiled : Primitives → Library
untiled c = record { is_tiled = false; last = 0; tile = λ t. if t == 0 then Some c else None }

-- a reference to a thing of this tile that goes on in another tile, and its number there
abbrev pub cross : ℕ → ℕ → ℕ → Triplet
cross n t m = record { id = Some n; tile = Some t; ext = Some m }

-- what stands in place of an edge that there is not
abbrev pub absent_edge : EdgePrimitive
absent_edge = record {
  id = None;
  start_node = no_reference;
  end_node = no_reference;
  right_face = no_reference;
  left_face = no_reference;
  right_edge = no_reference;
  left_edge = no_reference;
  mark = None;
  carried = [];
}

-- the same of faces
abbrev pub absent_face : FacePrimitive
absent_face = record { id = None; ring_ptr = no_reference; carried = [] }

-- the same of rings
abbrev pub absent_ring : RingPrimitive
absent_ring = record { id = None; face = no_reference; start_edge = no_reference }

-- the same of nodes
abbrev pub absent_node : NodePrimitive
absent_node = record { id = None; first_edge = no_reference; carried = [] }

-- the same of entity nodes
abbrev pub absent_entity : EntityPrimitive
absent_entity = record { id = None; containing_face = no_reference; carried = [] }

-- the edges of a tile; an empty tile has none
abbrev pub edges_in : Option Primitives → List EdgePrimitive
edges_in None = []
edges_in (Some c) = c.edges

-- its faces
abbrev pub faces_in : Option Primitives → List FacePrimitive
faces_in None = []
faces_in (Some c) = c.faces

-- its rings
abbrev pub rings_in : Option Primitives → List RingPrimitive
rings_in None = []
rings_in (Some c) = c.rings

-- its nodes
abbrev pub nodes_in : Option Primitives → List NodePrimitive
nodes_in None = []
nodes_in (Some c) = c.nodes

-- its entity nodes; without a table of them there are none
abbrev pub entities_in : Option Primitives → List EntityPrimitive
entities_in None = []
entities_in (Some c) = unwrap_or c.entities []

-- the edges of the tile of this number
abbrev pub tile_edges : Library → ℕ → List EdgePrimitive
tile_edges L t = edges_in (L.tile t)

-- its faces
abbrev pub tile_faces : Library → ℕ → List FacePrimitive
tile_faces L t = faces_in (L.tile t)

-- its rings
abbrev pub tile_rings : Library → ℕ → List RingPrimitive
tile_rings L t = rings_in (L.tile t)

-- its nodes
abbrev pub tile_nodes : Library → ℕ → List NodePrimitive
tile_nodes L t = nodes_in (L.tile t)

-- its entity nodes
abbrev pub tile_entities : Library → ℕ → List EntityPrimitive
tile_entities L t = entities_in (L.tile t)

-- how many edges it has
abbrev pub edge_count : Library → ℕ → ℕ
edge_count L t = length (tile_edges L t)

-- how many faces it has, the universe included
abbrev pub face_count : Library → ℕ → ℕ
face_count L t = length (tile_faces L t)

-- how many rings it has
abbrev pub ring_count : Library → ℕ → ℕ
ring_count L t = length (tile_rings L t)

-- how many connected nodes it has
abbrev pub node_count : Library → ℕ → ℕ
node_count L t = length (tile_nodes L t)

-- there are tables
abbrev pub is_there : Option Primitives → Bool
is_there None = false
is_there (Some c) = true

-- the tile has tables
abbrev pub has_tables : Library → ℕ → Bool
has_tables L t = is_there (L.tile t)

-- a mark says that an edge is a line between tiles
abbrev pub is_tile_line : Option ℕ → Bool
is_tile_line None = false
is_tile_line (Some m) = m == 1

-- an edge as a row of it is read: its references, and whether it is a line between tiles
abbrev pub edge_row_of : EdgePrimitive → EdgeRow
edge_row_of e = record {
  start_node = e.start_node;
  end_node = e.end_node;
  right_face = e.right_face;
  left_face = e.left_face;
  right_edge = e.right_edge;
  left_edge = e.left_edge;
  line = is_tile_line e.mark;
}

-- an edge by the numbers of its nodes, faces and wings in its own tile
abbrev pub own_edge : EdgePrimitive → Edge
own_edge e = record {
  start_node = id_of e.start_node;
  end_node = id_of e.end_node;
  right_face = id_of e.right_face;
  left_face = id_of e.left_face;
  right_edge = id_of e.right_edge;
  left_edge = id_of e.left_edge;
}

-- the edges of a tile so
abbrev pub own_edges : Primitives → List Edge
own_edges c = map own_edge c.edges
