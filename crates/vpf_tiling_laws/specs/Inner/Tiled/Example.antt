-- An example: three edges about two nodes, and two faces in two tiles, which the third edge lies between.
use Rattle.std.specs.Prelude.{◌≡◌, ℕ, if◌then◌else◌, ◌==◌, [], ◌∷◌, None, Some, map}
use Rattle.vpf_triplet.specs.declared.triplets.Triplet.{Triplet}
use Rattle.vpf_darts.specs.Darts.{code}
use Rattle.vpf_prims.specs.References.{plain}
use Rattle.vpf_prims.specs.Primitives.{EdgePrimitive, FacePrimitive, RingPrimitive, NodePrimitive, Primitives, cross}
use Rattle.vpf_wing.specs.Links.{links_of}
use Rattle.vpf_tiling.specs.Tiles.{tiled_library}
use Rattle.vpf_trace.specs.Tracing.{tile_lines, traced_map}

-- an edge: its nodes, faces and wings, and its mark
abbrev pub edge : (id : ℕ) → (start_node end_node right_face left_face right_edge left_edge : Triplet) → (mark : ℕ) → EdgePrimitive
edge id a b c d e f mark = record {
  id = Some id;
  start_node = a;
  end_node = b;
  right_face = c;
  left_face = d;
  right_edge = e;
  left_edge = f;
  mark = Some mark;
  carried = [];
}

-- a face and its first ring
abbrev pub example_face : ℕ → ℕ → FacePrimitive
example_face id ring = record { id = Some id; ring_ptr = plain ring; carried = [] }

-- a ring, its face and its start edge
abbrev pub ring : ℕ → ℕ → ℕ → RingPrimitive
ring id example_face edge = record { id = Some id; face = plain example_face; start_edge = plain edge }

-- a node and its first edge
abbrev pub node : ℕ → ℕ → NodePrimitive
node id edge = record { id = Some id; first_edge = plain edge; carried = [] }

-- the untiled coverage
abbrev pub coverage : Primitives
coverage = record {
  edges = edge 1 (plain 1) (plain 2) (plain 2) (plain 1) (plain 3) (plain 2) 0
      ∷ edge 2 (plain 2) (plain 1) (plain 3) (plain 1) (plain 3) (plain 1) 0
      ∷ edge 3 (plain 1) (plain 2) (plain 3) (plain 2) (plain 2) (plain 1) 1 ∷ [];
  faces = example_face 1 1 ∷ example_face 2 2 ∷ example_face 3 3 ∷ [];
  rings = ring 1 1 1 ∷ ring 2 2 1 ∷ ring 3 3 2 ∷ [];
  nodes = node 1 1 ∷ node 2 1 ∷ [];
  entities = None;
}

-- its plan: face 2 in tile 1, face 3 in tile 2
abbrev pub plan : ℕ → ℕ
plan f = if f == 2 then 1 else (if f == 3 then 2 else 0)

-- the primitives of tile 1
abbrev pub example_first_tile : Primitives
example_first_tile = record {
  edges = edge 1 (cross 1 2 1) (plain 2) (plain 2) (plain 1) (plain 2) (cross 2 2 1) 0
      ∷ edge 2 (plain 1) (cross 2 2 2) (cross 1 2 2) (plain 2) (cross 1 2 1) (plain 1) 1 ∷ [];
  faces = example_face 1 1 ∷ example_face 2 2 ∷ [];
  rings = ring 1 1 1 ∷ ring 2 2 1 ∷ [];
  nodes = node 1 1 ∷ node 2 1 ∷ [];
  entities = None;
}

-- those of tile 2
abbrev pub second_tile : Primitives
second_tile = record {
  edges = edge 1 (cross 2 1 2) (plain 1) (plain 2) (plain 1) (plain 2) (cross 2 1 1) 0
      ∷ edge 2 (cross 1 1 1) (plain 2) (plain 2) (cross 1 1 2) (plain 1) (cross 1 1 1) 1 ∷ [];
  faces = example_face 1 1 ∷ example_face 2 2 ∷ [];
  rings = ring 1 1 1 ∷ ring 2 2 1 ∷ [];
  nodes = node 1 1 ∷ node 2 1 ∷ [];
  entities = None;
}

-- the tiled library of the coverage and the plan has these two tiles, and no other
abbrev pub IsTiled : Type 0
IsTiled = (map (tiled_library coverage plan 2).tile (0 ∷ 1 ∷ 2 ∷ 3 ∷ []) ≡ None ∷ Some example_first_tile ∷ Some second_tile ∷ None ∷ [])

-- its line between tiles is that of tile 2, and without it the darts of both tiles go round in two cycles
abbrev pub IsTraced : Type 0
IsTraced =
    (tile_lines (tiled_library coverage plan 2) ≡ code 2 2 0 ∷ [])
    × (map (traced_map (tiled_library coverage plan 2)).next (code 1 1 0 ∷ code 2 1 0 ∷ code 1 1 1 ∷ code 2 1 1 ∷ [])
    ≡ code 2 1 0 ∷ code 1 1 0 ∷ code 2 1 1 ∷ code 1 1 1 ∷ [])
