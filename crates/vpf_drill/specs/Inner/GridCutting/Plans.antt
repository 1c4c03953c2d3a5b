-- The plan of the grid of n by n cells: it names a tile for each face but the universe (MIL-STD-2407, 5.2.3, tiled coverages).
use Rattle.std.specs.Prelude.{◌≡◌, ℕ, ◌≤◌, ◌%◌, None, length}
use Rattle.vpf_tiling.specs.Plans.{IsTileable}
use Rattle.vpf_tiling.specs.Tileable.Planning.{plan_of}
use Rattle.vpf_library_commands.specs.CutBy.{names_of_faces, plan_refusal}
use Rattle.vpf_vectors.specs.Cells.Numbers.{faces}
use Rattle.vpf_vectors.specs.Cells.Rows.{tile_of}
use Rattle.vpf_vectors.specs.Inner.GridCoverage.Coverage.{grid_primitives}
use Rattle.vpf_vectors.specs.Library.{coverage_tables, tiles}
use Rattle.vpf_drill.specs.GridCutting.Held.{cut_plan_grid, tileref_grid}

-- the tile that the plan names for each face
abbrev pub grid_plan : ℕ → ℕ → ℕ
grid_plan n = plan_of (names_of_faces (coverage_tables n) (cut_plan_grid n))

-- for a face other than the universe that is its home tile
abbrev pub PlanNamesTiles : Type 0
PlanNamesTiles = (n f : ℕ) → 2 ≤ f → f ≤ faces n → grid_plan n f ≡ tile_of n f

-- there are as many tiles as rows in the table of tiles
abbrev pub RowsAreTiles : Type 0
RowsAreTiles = (n : ℕ) → length (tileref_grid n).rows ≡ tiles n

-- nothing speaks against the plan
abbrev pub GridServes : Type 0
GridServes = (n : ℕ) → n % 2 ≡ 0 → 2 ≤ n → n ≤ 200 → plan_refusal (coverage_tables n) (cut_plan_grid n) (length (tileref_grid n).rows) ≡ None

-- the grid may be cut into its tiles by the plan
abbrev pub GridIsTileable : Type 0
GridIsTileable = (n : ℕ) → n % 2 ≡ 0 → 2 ≤ n → n ≤ 200 → IsTileable (grid_primitives n) (grid_plan n) (tiles n)
