-- The tiled library of an untiled coverage and a plan (MIL-STD-2407, 5.2.3, tiled coverages and cross-tile topology).
use Rattle.std.specs.Prelude.{ℕ, Bool, true, not, ◌&&◌, ◌||◌, if◌then◌else◌, ◌==◌, nat_le, List, ◌∷◌, ◌++◌, None, Some, map, filter, flat_map}
use Rattle.std.specs.List.{list_any}
use Rattle.std.specs.Option.{option_map}
use Rattle.vpf_triplet.specs.declared.triplets.Triplet.{Triplet}
use Rattle.vpf_darts.specs.Darts.{code, edge_in}
use Rattle.vpf_prims.specs.Lists.{kth, first_item}
use Rattle.vpf_prims.specs.References.{plain, id_of}
use Rattle.vpf_prims.specs.Primitives.{EdgePrimitive, FacePrimitive, RingPrimitive, NodePrimitive, EntityPrimitive, Primitives, Library}
use Rattle.vpf_prims.specs.Primitives.{cross, absent_edge, absent_face, absent_node, absent_entity}
use Rattle.vpf_tiling.specs.Ranks.{numbered, leasts}
use Rattle.vpf_tiling.specs.Presence.{untiled_links, next_of, head_of, face_of, tile_map, home, is_within, is_present}
use Rattle.vpf_tiling.specs.Presence.{present_edges, present_nodes, held_faces, held_entities, containing_face, local_edge, local_node, local_face}

-- a number in this tile, and where the thing has its home in another tile, that tile and its number there
abbrev pub reference_to : ℕ → ℕ → ℕ → ℕ → Triplet
reference_to t s here there = if s == t then plain here else cross here s there

-- the wing of a dart in a tile: the next edge in the tile's map, with the next dart's edge in its home
abbrev pub tiled_wing : Primitives → (ℕ → ℕ) → ℕ → ℕ → Triplet
tiled_wing c plan t d =
    reference_to t (home c plan (next_of c d))
    (local_edge c plan t (edge_in ((tile_map c plan t).next d)))
    (local_edge c plan (home c plan (next_of c d)) (edge_in (next_of c d)))

-- the head node of a dart in a tile, with its number in the home of the next dart
abbrev pub tiled_node : Primitives → (ℕ → ℕ) → ℕ → ℕ → Triplet
tiled_node c plan t d =
    reference_to t (home c plan (next_of c d)) (local_node c plan t (head_of c d)) (local_node c plan (home c plan (next_of c d)) (head_of c d))

-- a face in a tile: its number there, or 1 with its own tile and its number there, or 1 alone for the universe
abbrev pub tiled_face : Primitives → (ℕ → ℕ) → ℕ → ℕ → Triplet
tiled_face c plan t f =
    if f == 1 then plain 1
    else (if plan f == t then plain (local_face c plan t f) else cross 1 (plan f) (local_face c plan (plan f) f))

-- row k of the edges of a tile, of the edge e
abbrev pub tiled_edge : Primitives → (ℕ → ℕ) → ℕ → ℕ → ℕ → EdgePrimitive
tiled_edge c plan t k e = record {
  id = Some k;
  start_node = tiled_node c plan t (code 0 e 1);
  end_node = tiled_node c plan t (code 0 e 0);
  right_face = tiled_face c plan t (face_of c (code 0 e 0));
  left_face = tiled_face c plan t (face_of c (code 0 e 1));
  right_edge = tiled_wing c plan t (code 0 e 0);
  left_edge = tiled_wing c plan t (code 0 e 1);
  mark = (kth c.edges e absent_edge).mark;
  carried = (kth c.edges e absent_edge).carried;
}

-- the edges of a tile, one for each present edge
abbrev pub tiled_edges : Primitives → (ℕ → ℕ) → ℕ → List EdgePrimitive
tiled_edges c plan t = numbered (tiled_edge c plan t) (present_edges c plan t)

-- a ring before it has its number: its face and its start edge
pub record Ring : Type 0 where
  pub face : ℕ
  pub edge : ℕ

-- the darts of a tile that have local face 1, rising
abbrev pub outer_darts : Primitives → (ℕ → ℕ) → ℕ → List ℕ
outer_darts c plan t = filter (λ d. is_present c plan t d && not (is_within c plan t d)) (untiled_links c).darts

-- one ring for each local cycle of local face 1, by its least dart
abbrev pub outer_rings : Primitives → (ℕ → ℕ) → ℕ → List Ring
outer_rings c plan t = map (λ d. record { face = 1; edge = local_edge c plan t (edge_in d) }) (leasts (tile_map c plan t).next (outer_darts c plan t))

-- the rings of a face of the coverage, with their numbers in the tile
abbrev pub face_rings : Primitives → (ℕ → ℕ) → ℕ → ℕ → List Ring
face_rings c plan t f =
    map (λ r. record { face = local_face c plan t f; edge = local_edge c plan t (id_of r.start_edge) })
    (filter (λ r. id_of r.face == f) c.rings)

-- the rings of a tile, by their local faces
abbrev pub tiled_rings : Primitives → (ℕ → ℕ) → ℕ → List Ring
tiled_rings c plan t = outer_rings c plan t ++ flat_map (face_rings c plan t) (held_faces c plan t)

-- ring k of a tile
abbrev pub numbered_ring : ℕ → Ring → RingPrimitive
numbered_ring k r = record { id = Some k; face = plain r.face; start_edge = plain r.edge }

-- face k of a tile, of the face f: its first ring among those of the tile, 0 where it has none
abbrev pub numbered_face : Primitives → List Ring → ℕ → ℕ → FacePrimitive
numbered_face c rings k f = record {
  id = Some k;
  ring_ptr = plain (first_item (λ r. r.face == k) rings);
  carried = (kth c.faces f absent_face).carried;
}

-- the number of the first edge at a node
abbrev pub first_edge_at : ℕ → List EdgePrimitive → ℕ
first_edge_at n edges = first_item (λ e. (id_of e.start_node == n) || (id_of e.end_node == n)) edges

-- node k of a tile, of the node n
abbrev pub numbered_node : Primitives → List EdgePrimitive → ℕ → ℕ → NodePrimitive
numbered_node c edges k n = record { id = Some k; first_edge = plain (first_edge_at k edges); carried = (kth c.nodes n absent_node).carried }

-- entity node k of a tile, of the entity node n
abbrev pub numbered_entity : Primitives → (ℕ → ℕ) → ℕ → List EntityPrimitive → ℕ → ℕ → EntityPrimitive
numbered_entity c plan t entities k n = record {
  id = Some k;
  containing_face = plain (local_face c plan t (containing_face c n));
  carried = (kth entities n absent_entity).carried;
}

-- the primitives of a tile
abbrev pub tiled_primitives : Primitives → (ℕ → ℕ) → ℕ → Primitives
tiled_primitives c plan t = record {
  edges = tiled_edges c plan t;
  faces = numbered (numbered_face c (tiled_rings c plan t)) (1 ∷ held_faces c plan t);
  rings = numbered numbered_ring (tiled_rings c plan t);
  nodes = numbered (numbered_node c (tiled_edges c plan t)) (present_nodes c plan t);
  entities = option_map (λ entities. numbered (numbered_entity c plan t entities) (held_entities c plan t)) c.entities;
}

-- a tile has tables where it holds a face, and the first in any case
abbrev pub is_made : Primitives → (ℕ → ℕ) → ℕ → ℕ → Bool
is_made c plan tiles t = nat_le 1 t && nat_le t tiles && ((t == 1) || list_any (λ f. true) (held_faces c plan t))

-- the tiled library of a coverage and a plan, of so many tiles
abbrev pub tiled_library : Primitives → (ℕ → ℕ) → ℕ → Library
tiled_library c plan tiles = record {
  is_tiled = true;
  last = tiles;
  tile = λ t. if is_made c plan tiles t then Some (tiled_primitives c plan t) else None;
}
