-- What is so of the map of every library that agrees, and of what is left of it without its lines.
use Rattle.std.specs.Prelude.{◌≡◌, ◌↔◌, ℕ, true, false, List}
use Rattle.vpf_darts.specs.Cycles.{IsListing}
use Rattle.vpf_darts.specs.Maps.{DartMap, IsMap}
use Rattle.vpf_prims.specs.Primitives.{Library}
use Rattle.vpf_wing.specs.Links.{links_of, local_map}
use Rattle.vpf_cross.specs.Following.{is_home}
use Rattle.vpf_cross.specs.Agreeing.{LibraryAgrees}
use Rattle.vpf_trace.specs.Tracing.{IsTrace, KeptAreLeft, LinesAreMarked, is_on_line, map_of_library}

-- a library that agrees is a combinatorial map
abbrev pub LibraryHasMap : Type 0
LibraryHasMap = (L : Library) → LibraryAgrees L → IsMap (map_of_library L)

-- two maps have the same darts, which go on alike and have the same other darts
pub record SameDarts (m n : DartMap) : Type 0 where
  pub has : (d : ℕ) → m.has d ≡ n.has d
  pub live : (d : ℕ) → m.live d ≡ n.live d
  pub next : (d : ℕ) → m.next d ≡ n.next d
  pub flip : (d : ℕ) → m.has d ≡ true → m.flip d ≡ n.flip d

-- the map of an untiled coverage that agrees is that of its wings
abbrev pub UntiledMapIsOfWings : Type 0
UntiledMapIsOfWings = (L : Library) → LibraryAgrees L → L.is_tiled ≡ false → SameDarts (map_of_library L) (local_map (links_of L))

-- its lines are the edges that are marked so
abbrev pub LibraryHasLines : Type 0
LibraryHasLines = (L : Library) → LibraryAgrees L → LinesAreMarked L

-- what is left without them is a map of the home darts of the other edges
abbrev pub LibraryHasKept : Type 0
LibraryHasKept = (L : Library) → LibraryAgrees L → KeptAreLeft L

-- a library that agrees has exactly one trace
abbrev pub LibraryHasTrace : Type 0
LibraryHasTrace = (L : Library) → LibraryAgrees L → (lists : List (List ℕ)) × IsTrace L lists

abbrev pub OneTrace : Type 0
OneTrace = (L : Library) (xs ys : List (List ℕ)) → IsTrace L xs → IsTrace L ys → xs ≡ ys

-- where no edge is a line, the trace of a library is the listing of its map
abbrev pub TraceWithoutLines : Type 0
TraceWithoutLines = (L : Library) (lists : List (List ℕ)) → ((d : ℕ) → is_home (links_of L) d ≡ true → is_on_line L d ≡ false)
    → IsTrace L lists ↔ IsListing (map_of_library L).next (map_of_library L).live lists
