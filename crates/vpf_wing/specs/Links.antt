-- The darts of a coverage, and what its rows say of each: its wing, its head node, its face (MIL-STD-2407, 5.2.2, winged-edge
-- topology). A dart is its number.
use Rattle.std.specs.Prelude.{ℕ, zero, suc, Bool, ◌&&◌, if◌then◌else◌, ◌==◌, nat_le, List, [], ◌∷◌, ◌++◌, Option, None, Some}
use Rattle.std.specs.Option.{unwrap_or}
use Rattle.vpf_triplet.specs.declared.triplets.Triplet.{Triplet}
use Rattle.vpf_value.specs.Values.{Value}
use Rattle.vpf_darts.specs.Darts.{code, tile_in, edge_in, sign_in, flip}
use Rattle.vpf_darts.specs.Maps.{DartMap}
use Rattle.vpf_prims.specs.Lists.{kth}
use Rattle.vpf_prims.specs.References.{id_of}
use Rattle.vpf_prims.specs.Primitives.{EdgePrimitive, Library, absent_edge, tile_edges, edge_count}

-- a thing of another tile: the tile, and the thing's number there
pub record Beyond : Type 0 where
  pub tile : ℕ
  pub id : ℕ

-- what a reference names: a number in its own tile, and maybe a thing of another
pub record Link : Type 0 where
  pub id : ℕ
  pub out : Option Beyond

-- the external part of a reference: there where both its tile and its number there are
abbrev pub beyond_of : Option ℕ → Option ℕ → Option Beyond
beyond_of None ext = None
beyond_of (Some t) None = None
beyond_of (Some t) (Some n) = Some (record { tile = t; id = n })

-- a reference so
abbrev pub link_of : Triplet → Link
link_of r = record { id = id_of r; out = beyond_of r.tile r.ext }

-- what the rows say of darts: which numbers are darts, all darts in their order, and for each dart its wing, its head
-- node, its face, and the mark and the carried cells of its edge
pub record DartLinks : Type 0 where
  pub has : ℕ → Bool
  pub darts : List ℕ
  pub wing : ℕ → Link
  pub node : ℕ → Link
  pub face : ℕ → Link
  pub mark : ℕ → Option ℕ
  pub carried : ℕ → List Value

-- the edge of a dart
abbrev pub edge_of_dart : Library → ℕ → EdgePrimitive
edge_of_dart L d = kth (tile_edges L (tile_in d)) (edge_in d) absent_edge

-- e+ has the right edge, the end node and the right face; e- the left edge, the start node and the left face
abbrev pub wing_by : Bool → EdgePrimitive → Triplet
wing_by minus e = if minus then e.left_edge else e.right_edge

-- the head node of the + or - dart of an edge
abbrev pub node_by : Bool → EdgePrimitive → Triplet
node_by minus e = if minus then e.start_node else e.end_node

-- the face of the + or - dart of an edge
abbrev pub face_by : Bool → EdgePrimitive → Triplet
face_by minus e = if minus then e.left_face else e.right_face

-- the dart is the - dart of its edge
abbrev pub is_minus : ℕ → Bool
is_minus d = sign_in d == 1

-- the + dart and the - dart of the edges 1 to n of a tile
abbrev pub row_darts : ℕ → ℕ → List ℕ
row_darts t zero = []
row_darts t (suc n) = row_darts t n ++ code t (suc n) 0 ∷ code t (suc n) 1 ∷ []

-- the darts of the tiles 0 to t, which have so many edges, in their order
abbrev pub tile_darts : (ℕ → ℕ) → ℕ → List ℕ
tile_darts edges zero = row_darts 0 (edges 0)
tile_darts edges (suc t) = tile_darts edges t ++ row_darts (suc t) (edges (suc t))

-- the darts of a coverage
abbrev pub links_of : Library → DartLinks
links_of L = record {
  has = λ d. nat_le 1 (edge_in d) && nat_le (edge_in d) (edge_count L (tile_in d)) && nat_le (tile_in d) L.last;
  darts = tile_darts (edge_count L) L.last;
  wing = λ d. link_of (wing_by (is_minus d) (edge_of_dart L d));
  node = λ d. link_of (node_by (is_minus d) (edge_of_dart L d));
  face = λ d. link_of (face_by (is_minus d) (edge_of_dart L d));
  mark = λ d. (edge_of_dart L d).mark;
  carried = λ d. (edge_of_dart L d).carried;
}

-- the number, in its own tile, of the node where a dart begins
abbrev pub tail_node : DartLinks → ℕ → ℕ
tail_node C d = (C.node (flip d)).id

-- the one of an edge's two darts that passes
abbrev pub only : (ℕ → Bool) → ℕ → Option ℕ
only p d = if p d then (if p (flip d) then None else Some d) else (if p (flip d) then Some (flip d) else None)

-- a dart that begins at this node and has this face, by their numbers in its tile
abbrev pub is_next : DartLinks → ℕ → ℕ → ℕ → Bool
is_next C node face e = C.has e && ((tail_node C e == node) && ((C.face e).id == face))

-- of an edge of a tile, the dart that begins at this node and has this face
abbrev pub next_to : DartLinks → (tile edge node face : ℕ) → Option ℕ
next_to C tile edge node face = only (is_next C node face) (code tile edge 0)

-- the next of a dart in its tile: the one dart of its wing edge that begins where it ends and has its face
abbrev pub local_next : DartLinks → ℕ → Option ℕ
local_next C d = next_to C (tile_in d) (C.wing d).id (C.node d).id (C.face d).id

-- the map of the tiles by themselves, whose next is the local next
abbrev pub local_map : DartLinks → DartMap
local_map C = record {
  has = C.has;
  next = λ d. if C.has d then unwrap_or (local_next C d) d else d;
  flip = flip;
  live = C.has;
}
