-- What is so of the grid of n by n cells as a coverage.
use Rattle.std.specs.Prelude.{◌≡◌, ℕ, ◌≤◌, true, Some}
use Rattle.vpf_darts.specs.Cycles.{IsListing}
use Rattle.vpf_prims.specs.Libraries.{IsLibrary}
use Rattle.vpf_wing.specs.Links.{local_next, local_map}
use Rattle.vpf_wing.specs.WellFormed.{IsWellFormed}
use Rattle.vpf_vectors.specs.Cells.Maps.{has_dart, next_in_grid, grid_map}
use Rattle.vpf_vectors.specs.Cells.Rows.{face_cycles}
use Rattle.vpf_vectors.specs.Inner.GridCoverage.Coverage.{grid_primitives, grid_library, grid_links}

-- its rows are a well-formed coverage
abbrev pub GridIsWellFormed : Type 0
GridIsWellFormed = (n : ℕ) → 1 ≤ n → n ≤ 200 → IsWellFormed (grid_primitives n)

-- they are an untiled library, of few enough edges
abbrev pub GridIsLibrary : Type 0
GridIsLibrary = (n : ℕ) → n ≤ 200 → IsLibrary (grid_library n)

-- the next of each dart that the rows say is the next in the grid
abbrev pub RowsSayNexts : Type 0
RowsSayNexts = (n d : ℕ) → 1 ≤ n → n ≤ 200 → has_dart n d ≡ true → local_next (grid_links n) d ≡ Some (next_in_grid n d)

-- the map of the rows is the map of the grid
abbrev pub RowsMakeMap : Type 0
RowsMakeMap = (n : ℕ) → 1 ≤ n → n ≤ 200 → local_map (grid_links n) ≡ grid_map n

-- the boundaries of the faces are the listing of that map
abbrev pub BoundariesAreListed : Type 0
BoundariesAreListed = (n : ℕ) → 1 ≤ n → n ≤ 200 → IsListing (local_map (grid_links n)).next (local_map (grid_links n)).live (face_cycles n)
