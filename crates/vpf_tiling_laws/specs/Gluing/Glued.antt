-- The untiled coverage that a tiled library is glued to, and the coverage of a tiling in the same numbering.
use Rattle.std.specs.Prelude.{ℕ, ◌+◌, not, if◌then◌else◌, ◌==◌, is_some, List, ◌∷◌, ◌++◌, Option, None, Some, map, length, filter, flat_map}
use Rattle.std.specs.Option.{option_map}
use Rattle.vpf_value.specs.Values.{Value}
use Rattle.vpf_darts.specs.Darts.{sign_in}
use Rattle.vpf_darts.specs.Maps.{turn}
use Rattle.vpf_prims.specs.Lists.{first_item}
use Rattle.vpf_prims.specs.References.{plain}
use Rattle.vpf_prims.specs.Primitives.{EdgePrimitive, EntityPrimitive, FacePrimitive, Library, NodePrimitive, Primitives}
use Rattle.vpf_wing.specs.Links.{Beyond}
use Rattle.vpf_wing.specs.Walks.{least_after}
use Rattle.vpf_follow.specs.Following.{same_beyond}
use Rattle.vpf_tiling.specs.Ranks.{leasts, numbered}
use Rattle.vpf_tiling.specs.Tiles.{Ring, first_edge_at, numbered_ring}
use Rattle.vpf_tiling_laws.specs.Gluing.Whole.{Whole, WholeEntity, WholeFace, whole_named, whole_of}

-- where a number stands in a list, counted from 1, 0 where it doesn't
abbrev pub listed_at : ℕ → List ℕ → ℕ
listed_at x xs = first_item (λ y. y == x) xs

-- the edges, each by its + dart, in their order
abbrev pub plus_darts : Whole → List ℕ
plus_darts w = filter (λ d. sign_in d == 0) w.order

-- the number of a dart's edge: the place of its + dart
abbrev pub edge_number : Whole → ℕ → ℕ
edge_number w d = listed_at (if sign_in d == 0 then d else w.darts.flip d) (plus_darts w)

-- the number of a face: 1 for the universe, and the others after it by tile and number
abbrev pub face_number : Whole → Option Beyond → ℕ
face_number w None = 1
face_number w (Some p) = 1 + first_item (λ f. same_beyond f.at p) w.faces

-- the nodes, each by the least dart that begins there, in their order
abbrev pub first_darts : Whole → List ℕ
first_darts w = leasts (turn w.darts) w.order

-- the number of the node where a dart begins
abbrev pub node_number : Whole → ℕ → ℕ
node_number w d = listed_at (least_after (turn w.darts) (length w.order) d) (first_darts w)

-- row k of edges, of the + dart d
abbrev pub glued_edge : Whole → ℕ → ℕ → EdgePrimitive
glued_edge w k d = record {
  id = Some k;
  start_node = plain (node_number w d);
  end_node = plain (node_number w (w.darts.flip d));
  right_face = plain (face_number w (w.face d));
  left_face = plain (face_number w (w.face (w.darts.flip d)));
  right_edge = plain (edge_number w (w.darts.next d));
  left_edge = plain (edge_number w (w.darts.next (w.darts.flip d)));
  mark = w.mark d;
  carried = w.carried d;
}

-- the rows of edges
abbrev pub glued_edges : Whole → List EdgePrimitive
glued_edges w = numbered (glued_edge w) (plus_darts w)

-- one ring for each cycle of the universe, by its least dart
abbrev pub universe_rings : Whole → List Ring
universe_rings w =
    map (λ d. record { face = 1; edge = edge_number w d }) (leasts w.darts.next (filter (λ d. not (is_some (w.face d))) w.order))

-- the rings of a face, in their order
abbrev pub rings_of_face : Whole → WholeFace → List Ring
rings_of_face w f = map (λ d. record { face = face_number w (Some f.at); edge = edge_number w d }) f.rings

-- all rings, by their faces
abbrev pub glued_rings : Whole → List Ring
glued_rings w = universe_rings w ++ flat_map (rings_of_face w) w.faces

-- row k of faces, of its carried cells
abbrev pub glued_face : List Ring → ℕ → List Value → FacePrimitive
glued_face rings k carried = record { id = Some k; ring_ptr = plain (first_item (λ r. r.face == k) rings); carried = carried }

-- row k of nodes, of the least dart that begins there
abbrev pub glued_node : Whole → List EdgePrimitive → ℕ → ℕ → NodePrimitive
glued_node w rows k d = record { id = Some k; first_edge = plain (first_edge_at k rows); carried = w.node d }

-- row k of entity nodes
abbrev pub glued_entity : Whole → ℕ → WholeEntity → EntityPrimitive
glued_entity w k e = record { id = Some k; containing_face = plain (face_number w e.face); carried = e.carried }

-- the coverage that a map says
abbrev pub whole_coverage : Whole → Primitives
whole_coverage w = record {
  edges = glued_edges w;
  faces = numbered (glued_face (glued_rings w)) (w.universe ∷ map (λ f. f.carried) w.faces);
  rings = numbered numbered_ring (glued_rings w);
  nodes = numbered (glued_node w (glued_edges w)) (first_darts w);
  entities = option_map (numbered (glued_entity w)) w.entities;
}

-- the glued coverage of a library
abbrev pub glued : Library → Primitives
glued L = whole_coverage (whole_of L)

-- the plan of a library: the tile of each face of its glued coverage but the universe
abbrev pub tiles_of_faces : Whole → List ℕ
tiles_of_faces w = map (λ f. f.at.tile) w.faces

-- the coverage in the numbering that the names of its darts in the tiles of a plan give
abbrev pub renumbered : Primitives → (ℕ → ℕ) → ℕ → Primitives
renumbered c plan tiles = whole_coverage (whole_named c plan tiles)
