-- A tree that holds the files of the grid of n by n cells, and nothing else.
use Rattle.std.specs.Prelude.{◌≡◌, ℕ, ◌≤◌, List, [], ◌∷◌, None, Some, codes, unwrap_or}
use Rattle.vpf_source.specs.Files.{Files, no_files, HoldsBytes}
use Rattle.vpf_source.specs.Making.{with_all}
use Rattle.vpf_table.specs.Canonical.{canonical_table}
use Rattle.vpf_table.specs.Grid.{Grid}
use Rattle.vpf_library_files.specs.Loading.Loading.{LoadedTable, loaded_file, within}
use Rattle.vpf_vectors.specs.Cells.Rows.{plan_rows}
use Rattle.vpf_vectors.specs.Heads.{plan_head}
use Rattle.vpf_vectors.specs.Library.{grid_files, tiles}
use Rattle.vpf_vectors.specs.Tables.{pair_table, grid_tileref}

-- the files of a tree that held none, once those of the grid are made in it
abbrev pub grid_held : ℕ → Files
grid_held n = unwrap_or (with_all (grid_files n) (Some no_files)) no_files

-- its table of tiles
abbrev pub tileref_grid : ℕ → Grid
tileref_grid n = grid_tileref (tiles n)

-- its plan: the home tile of each face but the universe
abbrev pub cut_plan_grid : ℕ → Grid
cut_plan_grid n = pair_table plan_head 2 (plan_rows n)

-- the folder of a tiled library beside that of the grid
abbrev pub grid_out : List ℕ
grid_out = codes "out"

-- a table as it is read of its own file alone
abbrev pub read_alone : List ℕ → Grid → LoadedTable
read_alone name grid = record { grid = grid; files = loaded_file name (canonical_table grid) ∷ [] }

-- once the files of the grid are made, the tree holds them
abbrev pub GridIsMade : Type 0
GridIsMade = (n : ℕ) → with_all (grid_files n) (Some no_files) ≡ Some (grid_held n)

-- it has nothing in the folder of the tiled library
abbrev pub OutIsEmpty : Type 0
OutIsEmpty = (n : ℕ) (name : List ℕ) → grid_held n (within grid_out name) ≡ None

-- what it holds are bytes
abbrev pub GridHoldsBytes : Type 0
GridHoldsBytes = (n : ℕ) → n ≤ 200 → HoldsBytes (grid_held n)
