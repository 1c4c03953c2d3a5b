-- The darts of a coverage in their order, and its home darts as they are kept: in their order, and what follows each.
use Rattle.std.specs.Prelude.{◌≡◌, ℕ, zero, suc, ◌-◌, ◌<◌, ◌^◌, true, Bool, if◌then◌else◌, List, [], ◌∷◌, ◌++◌, Option, Some, map, filter, position, slice_get}
use Rattle.std.specs.Option.{option_map, option_and_then}
use Rattle.vpf_darts.specs.declared.darts.TileDart.{TileDart}
use Rattle.vpf_darts.specs.contracts.darts.TileDartPartialEq.TheImpl.{eq-value}
use Rattle.vpf_darts.specs.Darts.{code, tile_dart_code}
use Rattle.vpf_prims.specs.Coverages.{CoverageTables}
use Rattle.vpf_prims.specs.Primitives.{Library, edge_count}
use Rattle.vpf_wing.specs.Links.{DartLinks, links_of, row_darts, tile_darts}
use Rattle.vpf_prims.specs.Libraries.{library_of}
use Rattle.vpf_follow.specs.Following.{dart_numbered, follow, is_home}

-- a dart of a tile is one of the coverage
abbrev pub IsDartIn : CoverageTables → TileDart → Type 0
IsDartIn c d = (links_of (library_of c)).has (tile_dart_code d) ≡ true

-- no tile has many edges: their numbers take 24 bits
abbrev pub HasFewEdges : Library → Type 0
HasFewEdges L = (t : ℕ) → edge_count L t < 2 ^ 24

-- the darts of the tiles before t, and of its edges 1 to k
abbrev pub darts_to : (ℕ → ℕ) → ℕ → ℕ → List ℕ
darts_to edges zero k = row_darts 0 k
darts_to edges (suc t) k = tile_darts edges t ++ row_darts (suc t) k

-- the darts before a dart
abbrev pub darts_before : (ℕ → ℕ) → ℕ → ℕ → Bool → List ℕ
darts_before edges t k minus = if minus then darts_to edges t (k - 1) ++ code t k 0 ∷ [] else darts_to edges t (k - 1)

-- darts in some order, and what follows each
pub record Followings : Type 0 where
  pub darts : List TileDart
  pub nexts : List TileDart

-- the first of the darts that this one follows
abbrev pub first_followed : Followings → TileDart → Option TileDart
first_followed h next = option_and_then (slice_get h.darts) (position ((eq-value).it next) h.nexts)

-- one more dart, and what follows it
abbrev pub followings_and : Followings → (dart next : TileDart) → Followings
followings_and h dart next = record { darts = h.darts ++ dart ∷ []; nexts = h.nexts ++ next ∷ [] }

-- what follows a dart, as a dart of a tile
abbrev pub follower : DartLinks → ℕ → Option TileDart
follower C d = option_map dart_numbered (follow C d)

-- these are the home darts among some darts, in their order, and what follows each
pub record AreHomes (C : DartLinks) (among : List ℕ) (h : Followings) : Type 0 where
  pub homes : h.darts ≡ map dart_numbered (filter (is_home C) among)
  pub followers : map Some h.nexts ≡ map (follower C) (filter (is_home C) among)

-- they are those of the tiles before t, and of its edges 1 to k
abbrev pub AreKeptTo : CoverageTables → ℕ → ℕ → Followings → Type 0
AreKeptTo c t k h = AreHomes (links_of (library_of c)) (darts_to (edge_count (library_of c)) t k) h

-- they are those before a dart
abbrev pub AreKeptBefore : CoverageTables → TileDart → Followings → Type 0
AreKeptBefore c d h = AreHomes (links_of (library_of c)) (darts_before (edge_count (library_of c)) d.tile d.edge d.minus) h

-- they are those before a dart, and maybe it
abbrev pub AreKeptWith : CoverageTables → TileDart → Followings → Type 0
AreKeptWith c d h =
    AreHomes (links_of (library_of c)) (darts_before (edge_count (library_of c)) d.tile d.edge d.minus ++ tile_dart_code d ∷ []) h
