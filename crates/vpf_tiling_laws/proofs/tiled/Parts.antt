-- What makes the tiled library agree, part by part.
use Rattle.std.specs.Prelude.{◌≡◌, ℕ, ◌≤◌, ◌==◌, true, false, length, Some, None}
use Rattle.vpf_darts.specs.Darts.{tile_in, sign_in, flip}
use Rattle.vpf_darts.specs.Maps.{turn}
use Rattle.vpf_prims.specs.Lists.{kth, first_item}
use Rattle.vpf_prims.specs.Numbering.{IsRowOf, IsNumbered}
use Rattle.vpf_prims.specs.Primitives.{Primitives, Library, absent_edge, absent_face, absent_ring, absent_node, tile_faces, tile_rings, tile_nodes, face_count, ring_count, node_count, has_tables}
use Rattle.vpf_prims.specs.References.{id_of}
use Rattle.vpf_wing.specs.Links.{Beyond, link_of, links_of, tail_node, local_next, local_map}
use Rattle.vpf_wing.specs.Walks.{LeadsTo}
use Rattle.vpf_wing.specs.WellFormed.{IsDartOf, StartsRing, GoesRound, IsAtNode, HasCycles, HasLoops}
use Rattle.vpf_follow.specs.Following.{beyond_tile, is_inside, is_home, is_outside, follow, home_copy}
use Rattle.vpf_trace.specs.Agreeing.{GoesOnHere, AgreesAcross}
use Rattle.vpf_trace.specs.CarriedLines.{first_tile, node_carried, universe_carried}
use Rattle.vpf_tiling.specs.Presence.{untiled_links, is_present, has_edge, face_of, copy_in, local_edge, tile_map}
use Rattle.vpf_tiling.specs.Tiles.{tiled_library, tiled_edge, tiled_edges, tiled_wing, tiled_node, tiled_face}
use Rattle.vpf_tiling.specs.Plans.{IsTileable}

-- the row of a present edge in its tile is that at its number there
abbrev pub EdgesByNumber : Type 0
EdgesByNumber = (c : Primitives) (plan : ℕ → ℕ) (t e : ℕ) → has_edge c plan t e ≡ true → e ≤ length c.edges
    → kth (tiled_edges c plan t) (local_edge c plan t e) absent_edge ≡ tiled_edge c plan t (local_edge c plan t e) e

-- what is said of a copy of a dart in a tile
pub record HasLinks (c : Primitives) (plan : ℕ → ℕ) (tiles t d : ℕ) : Type 0 where
  pub has : (links_of (tiled_library c plan tiles)).has (copy_in c plan t d) ≡ true
  pub wing : (links_of (tiled_library c plan tiles)).wing (copy_in c plan t d) ≡ link_of (tiled_wing c plan t d)
  pub node : (links_of (tiled_library c plan tiles)).node (copy_in c plan t d) ≡ link_of (tiled_node c plan t d)
  pub face : (links_of (tiled_library c plan tiles)).face (copy_in c plan t d) ≡ link_of (tiled_face c plan t (face_of c d))
  pub mark : (links_of (tiled_library c plan tiles)).mark (copy_in c plan t d) ≡ (untiled_links c).mark d
  pub carried : (links_of (tiled_library c plan tiles)).carried (copy_in c plan t d) ≡ (untiled_links c).carried d

-- each copy of a dart has the links of the tiled coverage
abbrev pub CopiesHaveLinks : Type 0
CopiesHaveLinks = (c : Primitives) (plan : ℕ → ℕ) (tiles : ℕ) → IsTileable c plan tiles → (t d : ℕ) → is_present c plan t d ≡ true
    → HasLinks c plan tiles t d

-- the local next of a copy is the copy of the next in the map of its tile
abbrev pub TileNextIsLocal : Type 0
TileNextIsLocal = (c : Primitives) (plan : ℕ → ℕ) (tiles : ℕ) → IsTileable c plan tiles → (t d : ℕ) → is_present c plan t d ≡ true
    → local_next (links_of (tiled_library c plan tiles)) (copy_in c plan t d) ≡ Some (copy_in c plan t ((tile_map c plan t).next d))

-- this is so of each tiled library
abbrev pub OfTiled : (Library → Type 0) → Type 0
OfTiled P = (c : Primitives) (plan : ℕ → ℕ) (tiles : ℕ) → IsTileable c plan tiles → P (tiled_library c plan tiles)

-- a loop of a tile has two different local faces
abbrev pub TiledLoops : Type 0
TiledLoops = OfTiled (λ L. HasLoops (links_of L))

-- each edge has a side in its tile
abbrev pub OneInside : Library → Type 0
OneInside L = (d : ℕ) → (links_of L).has d ≡ true → is_inside (links_of L) d ≡ false → is_inside (links_of L) (flip d) ≡ true

-- a dart inside its tile goes on there
abbrev pub InsidePlain : Library → Type 0
InsidePlain L = (d : ℕ) → (links_of L).has d ≡ true → is_inside (links_of L) d ≡ true → ((links_of L).wing d).out ≡ None

-- a dart of another tile's face goes on in that tile
abbrev pub OutsidePart : Library → Type 0
OutsidePart L = (d : ℕ) → is_outside (links_of L) d ≡ true → beyond_tile ((links_of L).wing d).out ≡ beyond_tile ((links_of L).face d).out

-- a wing and its node go on in one tile, or neither does
abbrev pub SamePart : Library → Type 0
SamePart L = (d : ℕ) → (links_of L).has d ≡ true → beyond_tile ((links_of L).node d).out ≡ beyond_tile ((links_of L).wing d).out

-- each dart is followed by a dart
abbrev pub Follows : Library → Type 0
Follows L = (d : ℕ) → (links_of L).has d ≡ true → (e : ℕ) × (follow (links_of L) d ≡ Some e)

-- no two home darts are followed by the same
abbrev pub FollowApart : Library → Type 0
FollowApart L = (d e : ℕ) → is_home (links_of L) d ≡ true → is_home (links_of L) e ≡ true → follow (links_of L) d ≡ follow (links_of L) e → d ≡ e

-- the other dart of an outside dart's home copy has the other dart of the outside dart for its home copy
abbrev pub HomeFlip : Library → Type 0
HomeFlip L = (d : ℕ) → is_outside (links_of L) d ≡ true → home_copy (links_of L) (flip (home_copy (links_of L) d)) ≡ flip d

-- an outside dart has the sign of its home copy
abbrev pub HomeSign : Library → Type 0
HomeSign L = (d : ℕ) → is_outside (links_of L) d ≡ true → sign_in (home_copy (links_of L) d) ≡ sign_in d

-- and its mark
abbrev pub HomeMark : Library → Type 0
HomeMark L = (d : ℕ) → is_outside (links_of L) d ≡ true → (links_of L).mark d ≡ (links_of L).mark (home_copy (links_of L) d)

-- and its carried cells
abbrev pub HomeCarried : Library → Type 0
HomeCarried L = (d : ℕ) → is_outside (links_of L) d ≡ true → (links_of L).carried d ≡ (links_of L).carried (home_copy (links_of L) d)

-- the tiles turn about their nodes as the whole coverage does
abbrev pub GoesOn : Library → Type 0
GoesOn L = (d : ℕ) → (links_of L).has d ≡ true → GoesOnHere (links_of L) d

-- a node has the same carried cells wherever it is named
abbrev pub NodeCarried : Library → Type 0
NodeCarried L = (d : ℕ) (p : Beyond) → (links_of L).has d ≡ true → ((links_of L).node d).out ≡ Some p
    → node_carried L (tile_in d) ((links_of L).node d).id ≡ node_carried L p.tile p.id

-- so has the universe
abbrev pub UniverseCarried : Library → Type 0
UniverseCarried L = (t : ℕ) → has_tables L t ≡ true → universe_carried L t ≡ universe_carried L (first_tile L)

-- the rows of each tile are numbered, and what they name is there
abbrev pub AllNumbered : Library → Type 0
AllNumbered L = (t : ℕ) → has_tables L t ≡ true → IsNumbered L t

-- each dart of a tile has a next there
abbrev pub HasNexts : Library → Type 0
HasNexts L = (t d : ℕ) → IsDartOf (links_of L) t d → (e : ℕ) × (local_next (links_of L) d ≡ Some e)

-- no two darts of a tile have the same next
abbrev pub NextsApart : Library → Type 0
NextsApart L = (t d e : ℕ) → IsDartOf (links_of L) t d → IsDartOf (links_of L) t e → local_next (links_of L) d ≡ local_next (links_of L) e → d ≡ e

-- the darts of a tile that begin at a node are one cycle of turn
abbrev pub OneNode : Library → Type 0
OneNode L = (t d e : ℕ) → IsDartOf (links_of L) t d → IsDartOf (links_of L) t e → tail_node (links_of L) d ≡ tail_node (links_of L) e
    → LeadsTo (turn (local_map (links_of L))) d e

-- an edge with one local face on both sides has both darts on one cycle of its tile
abbrev pub SidesMeet : Library → Type 0
SidesMeet L = (t d : ℕ) → IsDartOf (links_of L) t d → ((links_of L).face d).id ≡ ((links_of L).face (flip d)).id
    → LeadsTo (local_map (links_of L)).next d (flip d)

-- each ring of a tile starts with a dart of its face
abbrev pub RingsStart : Library → Type 0
RingsStart L = (t : ℕ) → has_tables L t ≡ true → (r : ℕ) → IsRowOf (ring_count L t) r → (d : ℕ) × StartsRing L t r d

-- each cycle of a tile has a ring
abbrev pub CyclesRinged : Library → Type 0
CyclesRinged L = (t : ℕ) → has_tables L t ≡ true → (d : ℕ) → IsDartOf (links_of L) t d → (r : ℕ) × GoesRound L t r d

-- and no two
abbrev pub RingsOnce : Library → Type 0
RingsOnce L = (t : ℕ) → has_tables L t ≡ true → (r s d : ℕ) → IsDartOf (links_of L) t d → GoesRound L t r d → GoesRound L t s d → r ≡ s

-- the rings of a face stand together
abbrev pub RingsTogether : Library → Type 0
RingsTogether L = (t : ℕ) → has_tables L t ≡ true → (p q r : ℕ) → p ≤ q → q ≤ r → IsRowOf (ring_count L t) p → IsRowOf (ring_count L t) r
    → id_of (kth (tile_rings L t) p absent_ring).face ≡ id_of (kth (tile_rings L t) r absent_ring).face
    → id_of (kth (tile_rings L t) q absent_ring).face ≡ id_of (kth (tile_rings L t) p absent_ring).face

-- a face names the first of its rings
abbrev pub FirstRings : Library → Type 0
FirstRings L = (t : ℕ) → has_tables L t ≡ true → (f : ℕ) → IsRowOf (face_count L t) f
    → id_of (kth (tile_faces L t) f absent_face).ring_ptr ≡ first_item (λ r. id_of r.face == f) (tile_rings L t)

-- a node names an edge at it
abbrev pub FirstEdges : Library → Type 0
FirstEdges L = (t : ℕ) → has_tables L t ≡ true → (n : ℕ) → IsRowOf (node_count L t) n
    → IsAtNode (links_of L) t (id_of (kth (tile_nodes L t) n absent_node).first_edge) n

-- the cycles of all tiles, their rings and their nodes are right
abbrev pub TiledCycles : Library → Type 0
TiledCycles L = (t : ℕ) → has_tables L t ≡ true → HasCycles L t

-- the tiles of a tiled library agree with each other
abbrev pub TiledAcross : Type 0
TiledAcross = OfTiled AgreesAcross
