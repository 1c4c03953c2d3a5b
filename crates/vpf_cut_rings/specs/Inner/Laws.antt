-- What is so of the rings of all tiles: where the cycles of a map are listed, each ring is that of the dart that its cycle begins with.
use Rattle.std.specs.Prelude.{◌≡◌, ℕ, Bool, true, not, ◌&&◌, List, filter, map}
use Rattle.std.specs.List.Sorted.{IsStrictlyIncreasing}
use Rattle.vpf_darts.specs.Cycles.{IsListing, first_of}
use Rattle.vpf_prims.specs.Primitives.{Primitives}
use Rattle.vpf_tiling.specs.Plans.{IsTileable}
use Rattle.vpf_tiling.specs.Presence.{is_within, tile_map}
use Rattle.vpf_tiling.specs.Ranks.{leasts}
use Rattle.vpf_tiling.specs.Tiles.{outer_rings}
use Rattle.vpf_wing.specs.Inner.DartLaws.{stands_in}
use Rattle.vpf_cut_rings.specs.Inner.Rings.{outer_ring}

-- the darts, in their order, are the live ones that pass a test, and the test is the same of a dart and its next
pub record ArePassing (next : ℕ → ℕ) (live passes : ℕ → Bool) (darts : List ℕ) : Type 0 where
  pub rise : IsStrictlyIncreasing darts
  pub each : (d : ℕ) → stands_in d darts ≡ (live d && passes d)
  pub along : (d : ℕ) → live d ≡ true → passes (next d) ≡ passes d

-- the least dart of each cycle of these is what the cycle begins with in a listing
abbrev pub LeastsBeginCycles : Type 0
LeastsBeginCycles = (next : ℕ → ℕ) (live passes : ℕ → Bool) (darts : List ℕ) (lists : List (List ℕ)) → IsListing next live lists
    → ArePassing next live passes darts → leasts next darts ≡ filter passes (map first_of lists)

-- the outer rings of a tile start with the darts that begin a cycle of its map and have no face of the tile
abbrev pub OuterRingsBeginCycles : Type 0
OuterRingsBeginCycles = (c : Primitives) (plan : ℕ → ℕ) (tiles : ℕ) → IsTileable c plan tiles → (t : ℕ) (lists : List (List ℕ))
    → IsListing (tile_map c plan t).next (tile_map c plan t).live lists
    → outer_rings c plan t ≡ map (outer_ring c plan t) (filter (λ d. not (is_within c plan t d)) (map first_of lists))
