-- What is so of the sizes of the files of the tiled library of the grid.
use Rattle.std.specs.Prelude.{◌≡◌, ◌≤◌, ℕ, List, None}
use Rattle.vpf_library_files.specs.Loading.Holding.{bytes_in}
use Rattle.vpf_library_files.specs.Loading.Loading.{most_loaded}
use Rattle.vpf_library_files.specs.TableFiles.Adding.{NamedTable, files_made, first_limit_of}
use Rattle.vpf_library_commands.specs.Tables.{library_tables}
use Rattle.vpf_vectors.specs.Inner.GridCoverage.Coverage.{grid_primitives}
use Rattle.vpf_vectors.specs.Library.{coverage_tables, tiles}
use Rattle.vpf_vectors.specs.Tables.{grid_tileref}

-- the tables of the tiled library of the grid of n by n cells, as a coverage of this name, by a plan
abbrev pub grid_library_tables : (n : ℕ) → (cov : List ℕ) → (ℕ → ℕ) → List NamedTable
grid_library_tables n cov plan = library_tables cov (coverage_tables n) (grid_primitives n) plan (grid_tileref (tiles n))

-- none of them passes a limit, nor does an index
abbrev pub GridPassesNoLimit : Type 0
GridPassesNoLimit = (n : ℕ) (cov : List ℕ) (plan : ℕ → ℕ) → n ≤ 200 → first_limit_of (grid_library_tables n cov plan) ≡ None

-- their files have no more bytes in all than a run reads
abbrev pub GridIsLoaded : Type 0
GridIsLoaded = (n : ℕ) (cov : List ℕ) (plan : ℕ → ℕ) → n ≤ 200 → bytes_in (files_made (grid_library_tables n cov plan)) ≤ most_loaded
