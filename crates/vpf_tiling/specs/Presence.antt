-- What a plan makes of an untiled coverage: the home tile of each dart, which edges, nodes, faces and entity nodes are present in each
-- tile, their numbers there, and the map of what is present. A plan is a function of faces to tiles, 0 for no tile.
use Rattle.std.specs.Prelude.{ℕ, ◌+◌, Bool, not, ◌&&◌, ◌||◌, if◌then◌else◌, ◌==◌, nat_le, List, map, length, filter}
use Rattle.std.specs.List.{list_any}
use Rattle.vpf_darts.specs.Darts.{code, edge_in, sign_in, flip}
use Rattle.vpf_darts.specs.Maps.{DartMap, without}
use Rattle.vpf_prims.specs.Lists.{kth}
use Rattle.vpf_prims.specs.References.{id_of}
use Rattle.vpf_prims.specs.Primitives.{Primitives, untiled, absent_entity, tile_entities}
use Rattle.vpf_wing.specs.Links.{DartLinks, links_of, tail_node, local_map}
use Rattle.vpf_tiling.specs.Ranks.{up_to, rank}

-- the darts of an untiled coverage
abbrev pub untiled_links : Primitives → DartLinks
untiled_links c = links_of (untiled c)

-- its map
abbrev pub coverage_map : Primitives → DartMap
coverage_map c = local_map (untiled_links c)

-- the next of a dart
abbrev pub next_of : Primitives → ℕ → ℕ
next_of c = (coverage_map c).next

-- the node where a dart begins
abbrev pub tail_of : Primitives → ℕ → ℕ
tail_of c d = tail_node (untiled_links c) d

-- the node where a dart ends
abbrev pub head_of : Primitives → ℕ → ℕ
head_of c d = tail_of c (flip d)

-- the face of a dart
abbrev pub face_of : Primitives → ℕ → ℕ
face_of c d = ((untiled_links c).face d).id

-- the edges of a coverage, each by its + dart
abbrev pub edge_darts : Primitives → List ℕ
edge_darts c = map (λ e. code 0 e 0) (up_to (length c.edges))

-- a face of the coverage, other than the universe, that the plan puts into the tile
abbrev pub holds_face : Primitives → (ℕ → ℕ) → ℕ → ℕ → Bool
holds_face c plan t f = nat_le 2 f && nat_le f (length c.faces) && (plan f == t)

-- the home tile of a dart: that of its face, or of the other side's face where its own is the universe
abbrev pub home : Primitives → (ℕ → ℕ) → ℕ → ℕ
home c plan d = if face_of c d == 1 then plan (face_of c (flip d)) else plan (face_of c d)

-- a dart whose face is one of the tile
abbrev pub is_within : Primitives → (ℕ → ℕ) → ℕ → ℕ → Bool
is_within c plan t d = (untiled_links c).has d && holds_face c plan t (face_of c d)

-- a dart whose edge is present in the tile: it has a face of the tile on a side
abbrev pub is_present : Primitives → (ℕ → ℕ) → ℕ → ℕ → Bool
is_present c plan t d = is_within c plan t d || is_within c plan t (flip d)

-- an edge is present in the tile
abbrev pub has_edge : Primitives → (ℕ → ℕ) → ℕ → ℕ → Bool
has_edge c plan t e = is_present c plan t (code 0 e 0)

-- the present edges of a tile, rising
abbrev pub present_edges : Primitives → (ℕ → ℕ) → ℕ → List ℕ
present_edges c plan t = filter (has_edge c plan t) (up_to (length c.edges))

-- a node has a present edge
abbrev pub has_node : Primitives → (ℕ → ℕ) → ℕ → ℕ → Bool
has_node c plan t n = list_any (λ d. is_present c plan t d && (tail_of c d == n)) (untiled_links c).darts

-- the present nodes of a tile, rising
abbrev pub present_nodes : Primitives → (ℕ → ℕ) → ℕ → List ℕ
present_nodes c plan t = filter (has_node c plan t) (up_to (length c.nodes))

-- the faces of the tile, rising, without the universe
abbrev pub held_faces : Primitives → (ℕ → ℕ) → ℕ → List ℕ
held_faces c plan t = filter (holds_face c plan t) (up_to (length c.faces))

-- the face of an entity node
abbrev pub containing_face : Primitives → ℕ → ℕ
containing_face c n = id_of (kth (tile_entities (untiled c) 0) n absent_entity).containing_face

-- an entity node lies in a face of the tile
abbrev pub holds_entity : Primitives → (ℕ → ℕ) → ℕ → ℕ → Bool
holds_entity c plan t n = nat_le 1 n && holds_face c plan t (containing_face c n)

-- the entity nodes of a tile, rising
abbrev pub held_entities : Primitives → (ℕ → ℕ) → ℕ → List ℕ
held_entities c plan t = filter (holds_entity c plan t) (up_to (length (tile_entities (untiled c) 0)))

-- the number of an edge in a tile: its rank among the present edges, from 1
abbrev pub local_edge : Primitives → (ℕ → ℕ) → ℕ → ℕ → ℕ
local_edge c plan t e = rank (has_edge c plan t) e + 1

-- the number of a node in a tile: its rank among the present nodes, from 1
abbrev pub local_node : Primitives → (ℕ → ℕ) → ℕ → ℕ → ℕ
local_node c plan t n = rank (has_node c plan t) n + 1

-- the number of a face in its tile: its rank among the faces of the tile, from 2
abbrev pub local_face : Primitives → (ℕ → ℕ) → ℕ → ℕ → ℕ
local_face c plan t f = rank (holds_face c plan t) f + 2

-- a copy of a dart: the dart with its number in a tile
abbrev pub copy_in : Primitives → (ℕ → ℕ) → ℕ → ℕ → ℕ
copy_in c plan t d = code t (local_edge c plan t (edge_in d)) (sign_in d)

-- the name of a dart in the tiles: its copy in its home tile
abbrev pub dart_name : Primitives → (ℕ → ℕ) → ℕ → ℕ
dart_name c plan d = copy_in c plan (home c plan d) d

-- the edges that aren't present in the tile, each by its + dart
abbrev pub absent_darts : Primitives → (ℕ → ℕ) → ℕ → List ℕ
absent_darts c plan t = filter (λ d. not (is_present c plan t d)) (edge_darts c)

-- the map of the coverage without the edges that aren't present in the tile: so the next of a dart there is the first that is present among its next,
-- the one after it round the node, and so on (that this is the same is a law, `following_is_next` of vpf_tiling_laws)
abbrev pub tile_map : Primitives → (ℕ → ℕ) → ℕ → DartMap
tile_map c plan t = without (coverage_map c) (absent_darts c plan t)
