-- Following: the dart that comes next across the tiles of a coverage, by the external parts of its references, and the copies of an edge
-- in several tiles (MIL-STD-2407, 5.2.3, cross-tile topology). A dart is its number.
use Rattle.std.specs.Prelude.{ℕ, Bool, not, ◌&&◌, if◌then◌else◌, ◌==◌, is_some, nat_eq, Option, None, Some, find}
use Rattle.std.specs.Option.{unwrap_or, option_eq, option_map}
use Rattle.vpf_darts.specs.declared.darts.TileDart.{TileDart}
use Rattle.vpf_darts.specs.Darts.{code, tile_in, edge_in, flip}
use Rattle.vpf_darts.specs.Maps.{DartMap}
use Rattle.vpf_findings.specs.Findings.{Sight, DartSeen}
use Rattle.vpf_wing.specs.Links.{Beyond, Link, DartLinks, is_minus, tail_node, only}

-- the tile of an external part
abbrev pub beyond_tile : Option Beyond → Option ℕ
beyond_tile out = option_map (λ (b : Beyond). b.tile) out

-- two things of other tiles are the same
abbrev pub same_beyond : Beyond → Beyond → Bool
same_beyond p q = (p.tile == q.tile) && (p.id == q.id)

-- a face is one of its tile, and neither the universe nor a face of another tile
abbrev pub is_own_face : Link → Bool
is_own_face f = not (f.id == 1)

-- a face is one of another tile
abbrev pub is_far_face : Link → Bool
is_far_face f = (f.id == 1) && is_some f.out

-- a dart inside its tile: its face is one of the tile
abbrev pub is_inside : DartLinks → ℕ → Bool
is_inside C d = is_own_face (C.face d)

-- an outside dart: its face is one of another tile
abbrev pub is_outside : DartLinks → ℕ → Bool
is_outside C d = C.has d && is_far_face (C.face d)

-- a home dart: its face is one of the tile, or the universe
abbrev pub is_home : DartLinks → ℕ → Bool
is_home C d = C.has d && not (is_far_face (C.face d))

-- a face by its tile and its number there, nothing for the universe
abbrev pub face_beyond : ℕ → Link → Option Beyond
face_beyond t f = if f.id == 1 then f.out else Some (record { tile = t; id = f.id })

-- the face of a dart so
abbrev pub face_name : DartLinks → ℕ → Option Beyond
face_name C d = face_beyond (tile_in d) (C.face d)

-- a home dart that begins at this node of its tile and has the face of this name
abbrev pub is_named : DartLinks → ℕ → Option Beyond → ℕ → Bool
is_named C node face e = is_home C e && ((tail_node C e == node) && option_eq same_beyond (face_name C e) face)

-- of the edge that a wing names, the home dart that begins at the node and has the face that are named with it
abbrev pub follow_to : DartLinks → (tile edge node : ℕ) → (face wing_out node_out : Option Beyond) → Option ℕ
follow_to C tile edge node face None v = only (is_named C node face) (code tile edge 0)
follow_to C tile edge node face (Some w) None = None
follow_to C tile edge node face (Some w) (Some v) = if w.tile == v.tile then only (is_named C v.id face) (code w.tile w.id 0) else None

-- what a wing and a head node name, for a dart of this tile with the face of this name
abbrev pub follow_links : DartLinks → ℕ → (wing node : Link) → Option Beyond → Option ℕ
follow_links C tile wing node face = follow_to C tile wing.id node.id face wing.out node.out

-- the home dart that follows a dart: the one that the external parts of its wing, head node and face name, or the parts in its own tile
-- where its wing has no external part
unfoldable pub follow : DartLinks → ℕ → Option ℕ
follow C d = follow_links C (tile_in d) (C.wing d) (C.node d) (face_name C d)

-- a home dart is followed so
abbrev pub follows_to : DartLinks → Option ℕ → ℕ → Bool
follows_to C next e = is_home C e && option_eq nat_eq (follow C e) next

-- the first home dart that is followed so
unfoldable pub first_home : DartLinks → Option ℕ → Option ℕ
first_home C next = find (follows_to C next) C.darts

-- the home copy of a dart: itself where it is a home dart, and else the home dart that is followed by the same dart
unfoldable pub home_copy : DartLinks → ℕ → ℕ
home_copy C d = if is_home C d then d else unwrap_or (first_home C (follow C d)) d

-- the map of a tiled coverage: its darts are the home darts, each goes on to the one that follows it, and the other dart of its edge is the
-- home copy of the other dart in its tile
abbrev pub library_map : DartLinks → DartMap
library_map C = record {
  has = is_home C;
  next = λ d. if is_home C d then unwrap_or (follow C d) d else d;
  flip = λ d. if is_home C d then home_copy C (flip d) else d;
  live = is_home C;
}

-- the dart of this number
abbrev pub dart_numbered : ℕ → TileDart
dart_numbered d = record { tile = tile_in d; edge = edge_in d; minus = is_minus d }

-- it as it is seen
abbrev pub number_seen : ℕ → Sight
number_seen d = DartSeen (dart_numbered d)
