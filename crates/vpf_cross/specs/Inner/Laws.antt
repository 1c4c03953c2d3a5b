-- What is so of the tiles of every coverage: nothing is found exactly where they agree with each other.
use Rattle.std.specs.Prelude.{◌≡◌, ◌↔◌, ℕ, true, ◌==◌, ◌&&◌, if◌then◌else◌, Option, Some, None, length}
use Rattle.vpf_darts.specs.Darts.{tile_in, flip}
use Rattle.vpf_darts.specs.Maps.{IsMap}
use Rattle.vpf_prims.specs.Primitives.{Library, has_tables}
use Rattle.vpf_prims.specs.Numbering.{IsNumbered}
use Rattle.vpf_prims.specs.Roles.{edge_roles, face_roles, node_roles}
use Rattle.vpf_prims.specs.Suiting.{carried_columns}
use Rattle.vpf_prims.specs.Tables.{TileTables}
use Rattle.vpf_prims.specs.Coverages.{CoverageTables, tile_at}
use Rattle.vpf_prims.specs.Inner.Laws.{AreFilled}
use Rattle.vpf_library_files.specs.Inner.Loading.Laws.{AreNamedApart}
use Rattle.vpf_numbers.specs.Matching.{HaveColumns}
use Rattle.vpf_findings.specs.Firsts.{where_holds}
use Rattle.vpf_wing.specs.Links.{DartLinks, links_of}
use Rattle.vpf_wing.specs.WellFormed.{HasCycles}
use Rattle.vpf_prims.specs.Libraries.{IsLibrary, library_of, in_tiles}
use Rattle.vpf_follow.specs.Following.{is_home, is_outside, home_copy, library_map}
use Rattle.vpf_follow.specs.Sided.{HasSides, HasFollowers}
use Rattle.vpf_follow.specs.Inner.Homes.{HasFewEdges}
use Rattle.vpf_cross.specs.HomeLines.{coverage_links, homes_finding}
use Rattle.vpf_cross.specs.RoundLines.{copy_in_tile, rounds_finding}
use Rattle.vpf_cross.specs.CarriedLines.{carried_finding, inhabited_finding}
use Rattle.vpf_cross.specs.CrossFinding.{topology_finding}
use Rattle.vpf_cross.specs.Agreeing.{IsCopy, HasHomes, HasRounds, AreCarried, AreInhabited, LibraryAgrees}

-- the rows of all tables are whole, and the tables of all tiles carry as many columns without a role
pub record AreWhole (c : CoverageTables) : Type 0 where
  pub filled : (t : ℕ) (T : TileTables) → tile_at c t ≡ Some T → AreFilled T.tables
  pub edges : (s t : ℕ) (S T : TileTables) → tile_at c s ≡ Some S → tile_at c t ≡ Some T
      → length (carried_columns edge_roles S.tables.edg.head.columns) ≡ length (carried_columns edge_roles T.tables.edg.head.columns)
  pub faces : (s t : ℕ) (S T : TileTables) → tile_at c s ≡ Some S → tile_at c t ≡ Some T
      → length (carried_columns face_roles S.tables.fac.head.columns) ≡ length (carried_columns face_roles T.tables.fac.head.columns)
  pub nodes : (s t : ℕ) (S T : TileTables) → tile_at c s ≡ Some S → tile_at c t ≡ Some T
      → length (carried_columns node_roles S.tables.cnd.head.columns) ≡ length (carried_columns node_roles T.tables.cnd.head.columns)

-- where the tiles of a library have the columns of the first, the rows of their tables are whole, and no column's name stands twice, they carry
-- as many columns without a role
abbrev pub LikeAreWhole : Type 0
LikeAreWhole = (c : CoverageTables) → IsLibrary (library_of c) → HaveColumns c
    → ((t : ℕ) (T : TileTables) → tile_at c t ≡ Some T → AreFilled T.tables × AreNamedApart T.tables) → AreWhole c

-- the rows of each tile are numbered, and what they name is there
abbrev pub AreNumbered : Library → Type 0
AreNumbered L = (t : ℕ) → has_tables L t ≡ true → IsNumbered L t

-- there is no finding on home copies exactly where each outside dart is of one edge with its own
abbrev pub HomesDecide : Type 0
HomesDecide = (c : CoverageTables) → HasFewEdges (library_of c) → AreWhole c → HasFollowers (coverage_links c)
    → (in_tiles (homes_finding c) c ≡ None) ↔ HasHomes (coverage_links c)

-- where the cycles of each tile hold, there is no finding on turning exactly where tiles turn about their nodes as the whole coverage does
abbrev pub RoundsDecide : Type 0
RoundsDecide = (c : CoverageTables) → HasFewEdges (library_of c) → AreNumbered (library_of c)
    → ((t : ℕ) → has_tables (library_of c) t ≡ true → HasCycles (library_of c) t) → HasSides (coverage_links c) → HasFollowers (coverage_links c)
    → HasHomes (coverage_links c)
    → (in_tiles (rounds_finding (coverage_links c)) c ≡ None) ↔ HasRounds (coverage_links c)

-- the home copies of both darts of an outside dart's edge are of one edge
abbrev pub FlipsBack : DartLinks → Type 0
FlipsBack C = (d : ℕ) → is_outside C d ≡ true → home_copy C (flip (home_copy C d)) ≡ flip d

-- where there is no finding on home copies, those of both darts of an edge are of one edge
abbrev pub HomesFlipBack : Type 0
HomesFlipBack = (c : CoverageTables) → HasFewEdges (library_of c) → in_tiles (homes_finding c) c ≡ None → FlipsBack (coverage_links c)

-- the numbers of a tiled coverage are right, its sides and what follows its darts, and the home copies of both darts of an edge
pub record FlipsInTiles (c : CoverageTables) : Type 0 where
  pub few : HasFewEdges (library_of c)
  pub numbered : AreNumbered (library_of c)
  pub sides : HasSides (coverage_links c)
  pub follows : HasFollowers (coverage_links c)
  pub back : FlipsBack (coverage_links c)

-- then no dart has two copies in a tile
abbrev pub CopiesAreOne : Type 0
CopiesAreOne = (c : CoverageTables) → FlipsInTiles c → (t d e x : ℕ) → IsCopy (coverage_links c) t d e → IsCopy (coverage_links c) t d x → e ≡ x

-- the other dart of z's edge, where it is a copy of y in the tile
abbrev pub flip_in_tile : DartLinks → (t y z : ℕ) → Option ℕ
flip_in_tile C t y z = where_holds ((tile_in z == t) && (home_copy C (flip z) == y)) (flip z)

-- the copy of a home dart in a tile: itself, or the other dart of the home copy of its own other dart
abbrev pub copy_by_flip : DartLinks → ℕ → ℕ → Option ℕ
copy_by_flip C t y = if tile_in y == t then Some y else flip_in_tile C t y (home_copy C (flip y))

-- and the copy of a home dart in a tile is found by the other dart of its edge
abbrev pub FlipsGiveCopies : Type 0
FlipsGiveCopies = (c : CoverageTables) → FlipsInTiles c → (t y : ℕ) → is_home (coverage_links c) y ≡ true
    → copy_in_tile (coverage_links c) t y ≡ copy_by_flip (coverage_links c) t y

-- there is no finding on carried cells exactly where shared nodes and the universe carry the same everywhere
abbrev pub CarriedDecides : Type 0
CarriedDecides = (c : CoverageTables) → HasFewEdges (library_of c) → AreWhole c → AreNumbered (library_of c)
    → (in_tiles (carried_finding (library_of c)) c ≡ None) ↔ AreCarried (library_of c)

-- there is no finding on entity nodes exactly where each lies in a face of its tile
abbrev pub InhabitedDecides : Type 0
InhabitedDecides = (c : CoverageTables) → (in_tiles inhabited_finding c ≡ None) ↔ AreInhabited (library_of c)

-- where its numbers are right, there is no finding on the topology of a coverage exactly where it agrees
abbrev pub AgreementDecides : Type 0
AgreementDecides = (c : CoverageTables) → IsLibrary (library_of c) → AreNumbered (library_of c) → AreWhole c
    → (topology_finding c ≡ None) ↔ LibraryAgrees (library_of c)

-- a tiled library that agrees is a combinatorial map
abbrev pub AgreeingHasMap : Type 0
AgreeingHasMap = (L : Library) → LibraryAgrees L → L.is_tiled ≡ true → IsMap (library_map (links_of L))
