-- What the rows of the grid say, as primitives of an untiled coverage.
use Rattle.std.specs.Prelude.{ℕ, if◌then◌else◌, [], Some, None, map}
use Rattle.std.specs.List.{range_with_len}
use Rattle.vpf_prims.specs.References.{plain}
use Rattle.vpf_prims.specs.Primitives.{EdgePrimitive, FacePrimitive, RingPrimitive, NodePrimitive, Primitives, Library, untiled}
use Rattle.vpf_wing.specs.Links.{DartLinks, links_of}
use Rattle.vpf_vectors.specs.Cells.Numbers.{nodes, edges, faces}
use Rattle.vpf_vectors.specs.Cells.Rows.{row_of_edge, start_edge, first_edge}

-- an edge: it names what is in the grid, and has no other column
abbrev pub grid_edge : ℕ → ℕ → EdgePrimitive
grid_edge n e = record {
  id = Some e;
  start_node = plain (row_of_edge n e).start_node;
  end_node = plain (row_of_edge n e).end_node;
  right_face = plain (row_of_edge n e).right_face;
  left_face = plain (row_of_edge n e).left_face;
  right_edge = plain (row_of_edge n e).right_edge;
  left_edge = plain (row_of_edge n e).left_edge;
  mark = Some (if (row_of_edge n e).tile_line then 1 else 0);
  carried = [];
}

-- a face: its ring has its number
abbrev pub grid_face : ℕ → FacePrimitive
grid_face f = record { id = Some f; ring_ptr = plain f; carried = [] }

-- the ring of a face: it starts at the edge of the face's least dart
abbrev pub grid_ring : ℕ → RingPrimitive
grid_ring r = record { id = Some r; face = plain r; start_edge = plain (start_edge r) }

-- a node: it names the least edge at it
abbrev pub grid_node : ℕ → ℕ → NodePrimitive
grid_node n k = record { id = Some k; first_edge = plain (first_edge n k); carried = [] }

-- the primitives of the grid; it has no entity nodes
abbrev pub grid_primitives : ℕ → Primitives
grid_primitives n = record {
  edges = map (grid_edge n) (range_with_len 1 (edges n));
  faces = map grid_face (range_with_len 1 (faces n));
  rings = map grid_ring (range_with_len 1 (faces n));
  nodes = map (grid_node n) (range_with_len 1 (nodes n));
  entities = None;
}

-- the grid as an untiled coverage
abbrev pub grid_library : ℕ → Library
grid_library n = untiled (grid_primitives n)

-- what its rows say of darts
abbrev pub grid_links : ℕ → DartLinks
grid_links n = links_of (grid_library n)
