-- A table has no finding exactly where it is a table of tiles, and nothing ends its reading exactly where it is one within the bounds.
use Rattle.std.proofs.Common.{◌≡◌, length}
use Rattle.std.proofs.lemmas.List.{length-map}
use Rattle.vpf_table.specs.Grid.{Grid}
use Rattle.vpf_library_files.specs.Tileref.Tileref.{name_column, paths_of, row_path}

-- there is a path for each row
pub paths_counted : (grid : Grid) → length (paths_of grid) ≡ length grid.rows
paths_counted grid = length-map grid.rows (row_path (name_column grid.head.columns))
