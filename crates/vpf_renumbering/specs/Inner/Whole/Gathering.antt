-- The home darts of a coverage in their order, as they are gathered.
use Rattle.std.specs.Prelude.{◌≡◌, ℕ, ◌<◌, ◌^◌, All, List, [], ◌∷◌, ◌++◌, filter, map}
use Rattle.vpf_darts.specs.declared.darts.TileDart.{TileDart}
use Rattle.vpf_darts.specs.Darts.{tile_dart_code}
use Rattle.vpf_prims.specs.Coverages.{CoverageTables}
use Rattle.vpf_prims.specs.Libraries.{library_of}
use Rattle.vpf_prims.specs.Primitives.{Library, edge_count}
use Rattle.vpf_wing.specs.Links.{links_of}
use Rattle.vpf_wing.specs.Inner.DartLaws.{stands_in}
use Rattle.vpf_wing.specs.Inner.Kept.Kept.{AreInOrder}
use Rattle.vpf_follow.specs.Following.{is_home}
use Rattle.vpf_follow.specs.Inner.Homes.{darts_before, darts_to}
use Rattle.vpf_tiling_laws.specs.Gluing.Whole.{whole_of}

-- these are the home darts of a library, in their order, and no others
pub record AreHomeDarts (L : Library) (darts : List TileDart) : Type 0 where
  pub numbers : map tile_dart_code darts ≡ (whole_of L).order
  pub in_order : AreInOrder darts
  pub each : (d : ℕ) → stands_in d (map tile_dart_code darts) ≡ is_home (links_of L) d

-- these are the home darts among some darts, in their order, and their edges have numbers of 32 bits
pub record AreHomeAmong (L : Library) (among : List ℕ) (darts : List TileDart) : Type 0 where
  pub numbers : map tile_dart_code darts ≡ filter (is_home (links_of L)) among
  pub small : All (λ d. d.edge < 2 ^ 32) darts

-- they are those of the tiles before t, and of its edges 1 to k
abbrev pub AreHomesTo : CoverageTables → ℕ → ℕ → List TileDart → Type 0
AreHomesTo c t k darts = AreHomeAmong (library_of c) (darts_to (edge_count (library_of c)) t k) darts

-- they are those before a dart
abbrev pub AreHomesBefore : CoverageTables → TileDart → List TileDart → Type 0
AreHomesBefore c d darts = AreHomeAmong (library_of c) (darts_before (edge_count (library_of c)) d.tile d.edge d.minus) darts

-- they are those before a dart, and maybe it
abbrev pub AreHomesWith : CoverageTables → TileDart → List TileDart → Type 0
AreHomesWith c d darts = AreHomeAmong (library_of c) (darts_before (edge_count (library_of c)) d.tile d.edge d.minus ++ tile_dart_code d ∷ []) darts
