-- The map of a library, its lines between tiles, and what is left of the map without them (MIL-STD-2407, 5.2.3, cross-tile topology).
use Rattle.std.specs.Prelude.{◌≡◌, ℕ, ◌<◌, ◌^◌, true, false, Bool, not, ◌&&◌, is_some, List, filter}
use Rattle.vpf_darts.specs.Cycles.{IsListing}
use Rattle.vpf_darts.specs.Darts.{flip, sign_in}
use Rattle.vpf_darts.specs.Maps.{AreEdges, DartMap, IsMap, is_of_any, without}
use Rattle.vpf_prims.specs.Primitives.{Library, edge_count, is_tile_line}
use Rattle.vpf_wing.specs.Links.{links_of, is_minus}
use Rattle.vpf_cross.specs.Following.{follow, home_copy, is_home, is_outside, library_map}

-- the map of a library: its darts are the home darts, each goes on to the one that follows it, and the other dart of its edge is the home
-- copy of the other dart in its tile; in an untiled coverage every dart is a home dart, and this is the map of the wings
abbrev pub map_of_library : Library → DartMap
map_of_library L = library_map (links_of L)

-- the edge of a dart is a line between tiles
abbrev pub is_on_line : Library → ℕ → Bool
is_on_line L d = is_tile_line ((links_of L).mark d)

-- the dart is the + dart of a line of the map
abbrev pub begins_line : Library → ℕ → Bool
begins_line L d = is_home (links_of L) d && (is_on_line L d && not (is_minus d))

-- the edges of the map that are lines between tiles, each by its + dart
unfoldable pub tile_lines : Library → List ℕ
tile_lines L = filter (begins_line L) (links_of L).darts

-- the map of a library without its lines
abbrev pub traced_map : Library → DartMap
traced_map L = without (map_of_library L) (tile_lines L)

-- a home dart of an edge that is no line
abbrev pub is_kept : Library → ℕ → Bool
is_kept L d = is_home (links_of L) d && not (is_on_line L d)

-- these are the boundary cycles of a library, its lines passed over: the listing of the map without them
abbrev pub IsTrace : Library → List (List ℕ) → Type 0
IsTrace L lists = IsListing (traced_map L).next (traced_map L).live lists

-- the lines of a library are edges of its map, and a dart is of one of them exactly where its own edge is marked as a line
pub record LinesAreMarked (L : Library) : Type 0 where
  pub edges : AreEdges (map_of_library L) (tile_lines L)
  pub marked : (d : ℕ) → is_home (links_of L) d ≡ true → is_of_any (map_of_library L).flip (tile_lines L) d ≡ is_on_line L d

-- what is left without the lines is a map, of the home darts of the other edges
pub record KeptAreLeft (L : Library) : Type 0 where
  pub is_map : IsMap (traced_map L)
  pub kept : (d : ℕ) → (traced_map L).live d ≡ is_kept L d

-- What a walk past lines stands on: each dart is followed, and no two home darts by the same; an outside dart is of one edge with its home
-- copy, and an untiled coverage has none.
pub record IsTraceable (L : Library) : Type 0 where
  pub few : (t : ℕ) → edge_count L t < 2 ^ 24
  pub follows : (d : ℕ) → (links_of L).has d ≡ true → is_some (follow (links_of L) d) ≡ true
  pub follow_apart : (d e : ℕ) → is_home (links_of L) d ≡ true → is_home (links_of L) e ≡ true → follow (links_of L) d ≡ follow (links_of L) e → d ≡ e
  pub flips : (d : ℕ) → is_outside (links_of L) d ≡ true → home_copy (links_of L) (flip (home_copy (links_of L) d)) ≡ flip d
  pub signs : (d : ℕ) → is_outside (links_of L) d ≡ true → sign_in (home_copy (links_of L) d) ≡ sign_in d
  pub marks : (d : ℕ) → is_outside (links_of L) d ≡ true → (links_of L).mark d ≡ (links_of L).mark (home_copy (links_of L) d)
  pub all_home : L.is_tiled ≡ false → (d : ℕ) → (links_of L).has d ≡ true → is_home (links_of L) d ≡ true
