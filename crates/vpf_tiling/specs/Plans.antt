-- Which coverages may be tiled, and by which plans.
use Rattle.std.specs.Prelude.{◌≡◌, ◌≢◌, ℕ, ◌<◌, ◌≤◌, ◌^◌, true, length}
use Rattle.vpf_darts.specs.Darts.{flip}
use Rattle.vpf_prims.specs.Primitives.{Primitives, untiled, tile_entities}
use Rattle.vpf_prims.specs.Numbering.{IsRowOf}
use Rattle.vpf_wing.specs.WellFormed.{IsWellFormed}
use Rattle.vpf_tiling.specs.Presence.{untiled_links, face_of, containing_face}

-- the plan names one of so many tiles for each face but the universe
pub record IsPlan (c : Primitives) (plan : ℕ → ℕ) (tiles : ℕ) : Type 0 where
  pub some : 1 ≤ tiles
  pub from_one : (f : ℕ) → 2 ≤ f → f ≤ length c.faces → 1 ≤ plan f
  pub to_last : (f : ℕ) → 2 ≤ f → f ≤ length c.faces → plan f ≤ tiles

-- each edge has a face other than the universe on a side, and each entity node lies in one
pub record HasPlaces (c : Primitives) : Type 0 where
  pub edges : (d : ℕ) → (untiled_links c).has d ≡ true → face_of c d ≡ 1 → face_of c (flip d) ≢ 1
  pub entities : (n : ℕ) → IsRowOf (length (tile_entities (untiled c) 0)) n → containing_face c n ≢ 1

-- what may be tiled by a plan: a well-formed coverage, whose edge table has few rows
pub record IsTileable (c : Primitives) (plan : ℕ → ℕ) (tiles : ℕ) : Type 0 where
  pub few : length c.edges < 2 ^ 24
  pub well_formed : IsWellFormed c
  pub plans : IsPlan c plan tiles
  pub places : HasPlaces c
