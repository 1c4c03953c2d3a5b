-- A coverage by the tables of its tiles (MIL-STD-2407, 5.2.3, tiled coverages).
use Rattle.std.specs.Prelude.{ℕ, zero, suc, ◌-◌, Bool, true, false, List, [], ◌∷◌, length, Option, Some, None, slice_get, slice_index_or}
use Rattle.vpf_prims.specs.Tables.{TileTables}

-- whether it is tiled, the paths of the folders of its tiles, and their tables by their numbers from 0: an untiled coverage is the
-- tile 0 alone and has no paths; a tiled one has no tile 0, its tiles have the paths in their order, and an empty tile has no tables
pub record CoverageTables : Type 0 where
  pub is_tiled : Bool
  pub paths : List (List ℕ)
  pub tiles : List (Option TileTables)

-- the tables of a tile
abbrev pub tile_at : CoverageTables → ℕ → Option TileTables
tile_at c t = slice_index_or c.tiles t None

-- the path of tile t among those of all, counted from 1; none where no tile has the number
abbrev pub numbered_path : List (List ℕ) → ℕ → Option (List ℕ)
numbered_path paths zero = None
numbered_path paths (suc i) = slice_get paths i

-- the path of a tile's folder within the coverage: one that isn't tiled is its own folder
abbrev pub path_in : Bool → List (List ℕ) → ℕ → Option (List ℕ)
path_in true paths t = numbered_path paths t
path_in false paths zero = Some []
path_in false paths (suc t) = None

-- the same of a coverage
abbrev pub path_at : CoverageTables → ℕ → Option (List ℕ)
path_at c t = path_in c.is_tiled c.paths t

-- the number of the last tile, 0 where the coverage isn't tiled
abbrev pub last_tile : CoverageTables → ℕ
last_tile c = length c.tiles - 1

-- an untiled coverage of these tables
abbrev pub untiled_coverage : TileTables → CoverageTables
untiled_coverage T = record { is_tiled = false; paths = []; tiles = Some T ∷ [] }

-- a coverage of tiles with these paths, numbered from 1
abbrev pub tiled_coverage : List (List ℕ) → List (Option TileTables) → CoverageTables
tiled_coverage paths tiles = record { is_tiled = true; paths = paths; tiles = None ∷ tiles }
