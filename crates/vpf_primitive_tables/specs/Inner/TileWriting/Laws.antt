-- What is so of the tables of the tiles of every coverage, and of the table of tiles.
use Rattle.std.specs.Prelude.{◌≡◌, ◌≤◌, ◌<◌, ◌^◌, ℕ, length}
use Rattle.vpf_table.specs.Canonical.{IsWritable}
use Rattle.vpf_table.specs.Grid.{Grid}
use Rattle.vpf_prims.specs.Reading.{PrimitiveTables, primitives_of}
use Rattle.vpf_prims.specs.Suiting.{HasColumns}
use Rattle.vpf_library_files.specs.Tileref.Stops.{path_texts}
use Rattle.vpf_library_files.specs.Tileref.Tileref.{IsTileref}
use Rattle.vpf_tiling.specs.Plans.{IsTileable}
use Rattle.vpf_primitive_tables.specs.TileTables.Grids.{tiles_made}
use Rattle.vpf_primitive_tables.specs.Inner.TileReading.Cuts.{tables_of_tile}
use Rattle.vpf_primitive_tables.specs.Inner.TileWriting.Writable.{AreWritable, HaveFewRows}

-- the tables of each tile can be written, where none has too many rows
abbrev pub TilesAreWritable : Type 0
TilesAreWritable = (T : PrimitiveTables) (plan : ℕ → ℕ) (tiles t : ℕ) → HasColumns T → AreWritable T → HaveFewRows T
    → IsTileable (primitives_of T) plan tiles → tiles < 2 ^ 31 → 1 ≤ t → t ≤ tiles → HaveFewRows (tables_of_tile T plan t)
    → AreWritable (tables_of_tile T plan t)

-- so can the table of tiles
abbrev pub TilerefIsWritable : Type 0
TilerefIsWritable = (grid : Grid) → IsTileref grid → IsWritable grid → length grid.rows < 2 ^ 31 → IsWritable (tiles_made grid)

-- it is a table of tiles with the same paths
abbrev pub TilerefIsRead : Type 0
TilerefIsRead = (grid : Grid) → IsTileref grid → IsTileref (tiles_made grid) × (path_texts (tiles_made grid) ≡ path_texts grid)
