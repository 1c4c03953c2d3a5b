-- What is so of every table of tiles.
use Rattle.std.specs.Prelude.{◌≡◌, ◌↔◌, None}
use Rattle.vpf_table.specs.Grid.{Grid}
use Rattle.vpf_library_files.specs.Tileref.Tileref.{tileref_finding, IsTileref}
use Rattle.vpf_library_files.specs.Tileref.Stops.{tileref_stop, IsBounded}

-- there is no finding exactly where it is a table of tiles
abbrev pub TilerefDecides : Type 0
TilerefDecides = (grid : Grid) → (tileref_finding grid ≡ None) ↔ IsTileref grid

-- nothing ends its reading exactly where it is one within the bounds
abbrev pub StopsDecide : Type 0
StopsDecide = (grid : Grid) → (tileref_stop grid ≡ None) ↔ (IsTileref grid × IsBounded grid)
