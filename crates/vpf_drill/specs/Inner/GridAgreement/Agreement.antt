-- The coverage of the grid of n by n cells, as its files hold it.
use Rattle.std.specs.Prelude.{◌≡◌, ℕ, ◌≤◌}
use Rattle.vpf_prims.specs.Coverages.{CoverageTables, untiled_coverage}
use Rattle.vpf_prims.specs.Libraries.{library_of}
use Rattle.vpf_numbers.specs.Matching.{HaveColumns}
use Rattle.vpf_cross.specs.Agreeing.{LibraryAgrees}
use Rattle.vpf_vectors.specs.Library.{coverage_tables}
use Rattle.vpf_vectors.specs.Inner.GridCoverage.Coverage.{grid_library}

-- the untiled coverage of its tables, whose files are read first
abbrev pub grid_coverage : ℕ → CoverageTables
grid_coverage n = untiled_coverage (record { first = 0; tables = coverage_tables n })

-- its tables have the columns of a coverage
abbrev pub GridHasColumns : Type 0
GridHasColumns = (n : ℕ) → HaveColumns (grid_coverage n)

-- what its rows say is the grid, in a library of its own
abbrev pub GridIsSaid : Type 0
GridIsSaid = (n : ℕ) → library_of (grid_coverage n) ≡ grid_library n

-- and that agrees
abbrev pub GridAgrees : Type 0
GridAgrees = (n : ℕ) → 1 ≤ n → n ≤ 200 → LibraryAgrees (library_of (grid_coverage n))
