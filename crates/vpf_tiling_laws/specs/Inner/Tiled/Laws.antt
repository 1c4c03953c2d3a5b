-- What is so of every well-formed coverage and every plan: its tiled library is the same map with its darts renamed, and agrees.
use Rattle.std.specs.Prelude.{◌≡◌, ◌↔◌, ℕ, true, List, map, Some}
use Rattle.vpf_darts.specs.Cycles.{AreCycles, IsListing}
use Rattle.vpf_darts.specs.Inner.Laws.{ComesRoundTo}
use Rattle.vpf_darts.specs.Darts.{flip}
use Rattle.vpf_darts.specs.Maps.{without, is_of_any}
use Rattle.vpf_prims.specs.Primitives.{Primitives, untiled}
use Rattle.vpf_wing.specs.Links.{links_of}
use Rattle.vpf_wing.specs.WellFormed.{IsWellFormed}
use Rattle.vpf_follow.specs.Following.{follow, home_copy, library_map}
use Rattle.vpf_trace.specs.Agreeing.{LibraryAgrees}
use Rattle.vpf_tiling.specs.Presence.{untiled_links, coverage_map, next_of, is_present, copy_in, dart_name, absent_darts, tile_map}
use Rattle.vpf_tiling.specs.Tiles.{tiled_library}
use Rattle.vpf_trace.specs.Tracing.{tile_lines, traced_map}
use Rattle.vpf_tiling_laws.specs.Tiled.Names.{named_map}
use Rattle.vpf_tiling.specs.Plans.{IsTileable}

-- each copy of a dart is followed by the home copy of the dart's next
abbrev pub FollowingIsNext : Type 0
FollowingIsNext = (c : Primitives) (plan : ℕ → ℕ) (tiles : ℕ) → IsTileable c plan tiles → (t d : ℕ) → is_present c plan t d ≡ true
    → follow (links_of (tiled_library c plan tiles)) (copy_in c plan t d) ≡ Some (dart_name c plan (next_of c d))

-- the next edge in a tile is the first that is present there among the next, the one after it round the node, and so on
abbrev pub TileNextIsFirstPresent : Type 0
TileNextIsFirstPresent = (c : Primitives) (plan : ℕ → ℕ) (tiles : ℕ) → IsTileable c plan tiles → (t d : ℕ) → is_present c plan t d ≡ true
    → (k : ℕ) × ComesRoundTo (coverage_map c) (is_of_any flip (absent_darts c plan t)) k (next_of c d) ((tile_map c plan t).next d)

-- the home copy of each copy of a dart is the dart's name
abbrev pub HomeIsName : Type 0
HomeIsName = (c : Primitives) (plan : ℕ → ℕ) (tiles : ℕ) → IsTileable c plan tiles → (t d : ℕ) → is_present c plan t d ≡ true
    → home_copy (links_of (tiled_library c plan tiles)) (copy_in c plan t d) ≡ dart_name c plan d

-- the map of the tiled library is the coverage's map with each dart called by its name
abbrev pub MapIsNamed : Type 0
MapIsNamed = (c : Primitives) (plan : ℕ → ℕ) (tiles : ℕ) → IsTileable c plan tiles
    → library_map (links_of (tiled_library c plan tiles)) ≡ named_map c plan (coverage_map c)

-- where some lists are the boundary cycles of the coverage, lines between tiles passed over, those of the names of their darts are the
-- boundary cycles of the tiled library, lines passed over
abbrev pub CyclesAreNamed : Type 0
CyclesAreNamed = (c : Primitives) (plan : ℕ → ℕ) (tiles : ℕ) → IsTileable c plan tiles → (lists : List (List ℕ))
    → let M = without (coverage_map c) (tile_lines (untiled c)) in
    let L = traced_map (tiled_library c plan tiles) in
    AreCycles M.next M.live lists → AreCycles L.next L.live (map (map (dart_name c plan)) lists)

-- the listing of the boundary cycles of the tiled library, lines between tiles passed over, is that of the coverage, lines passed over, with
-- each dart called by its name; both are listed in the order of tile darts
abbrev pub ListingIsNamed : Type 0
ListingIsNamed = (c : Primitives) (plan : ℕ → ℕ) (tiles : ℕ) → IsTileable c plan tiles → (lists : List (List ℕ))
    → let L = traced_map (tiled_library c plan tiles) in
    let M = named_map c plan (without (coverage_map c) (tile_lines (untiled c))) in
    IsListing L.next L.live lists ↔ IsListing M.next M.live lists

-- the tiled library agrees
abbrev pub TiledAgrees : Type 0
TiledAgrees = (c : Primitives) (plan : ℕ → ℕ) (tiles : ℕ) → IsTileable c plan tiles → LibraryAgrees (tiled_library c plan tiles)
