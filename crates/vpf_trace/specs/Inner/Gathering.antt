-- The home darts of the edges that are no lines, in their order, as they are gathered.
use Rattle.std.specs.Prelude.{◌≡◌, ℕ, ◌<◌, ◌^◌, All, List, [], ◌∷◌, ◌++◌, filter, map}
use Rattle.vpf_darts.specs.declared.darts.TileDart.{TileDart}
use Rattle.vpf_darts.specs.Darts.{tile_dart_code}
use Rattle.vpf_prims.specs.Coverages.{CoverageTables}
use Rattle.vpf_prims.specs.Libraries.{library_of}
use Rattle.vpf_prims.specs.Primitives.{Library, edge_count}
use Rattle.vpf_cross.specs.FollowHomes.{darts_before, darts_to}
use Rattle.vpf_trace.specs.Tracing.{is_kept}

-- these are the home darts among some darts whose edges are no lines, in their order, and their edges have numbers of 32 bits
pub record AreKeptAmong (L : Library) (among : List ℕ) (darts : List TileDart) : Type 0 where
  pub numbers : map tile_dart_code darts ≡ filter (is_kept L) among
  pub small : All (λ d. d.edge < 2 ^ 32) darts

-- they are those of the tiles before t, and of its edges 1 to k
abbrev pub AreGatheredTo : CoverageTables → ℕ → ℕ → List TileDart → Type 0
AreGatheredTo c t k darts = AreKeptAmong (library_of c) (darts_to (edge_count (library_of c)) t k) darts

-- they are those before a dart
abbrev pub AreGatheredBefore : CoverageTables → TileDart → List TileDart → Type 0
AreGatheredBefore c d darts = AreKeptAmong (library_of c) (darts_before (edge_count (library_of c)) d.tile d.edge d.minus) darts

-- they are those before a dart, and maybe it
abbrev pub AreGatheredWith : CoverageTables → TileDart → List TileDart → Type 0
AreGatheredWith c d darts = AreKeptAmong (library_of c) (darts_before (edge_count (library_of c)) d.tile d.edge d.minus ++ tile_dart_code d ∷ []) darts
