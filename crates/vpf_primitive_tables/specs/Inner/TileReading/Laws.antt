-- What is so of the tables of the tiles of every coverage.
use Rattle.std.specs.Prelude.{◌≡◌, ℕ}
use Rattle.vpf_library_files.specs.Inner.Loading.Laws.{AreNamedApart}
use Rattle.vpf_numbers.specs.Matching.{HaveColumns}
use Rattle.vpf_prims.specs.Coverages.{CoverageTables}
use Rattle.vpf_prims.specs.Inner.Laws.{AreFilled}
use Rattle.vpf_prims.specs.Libraries.{library_of}
use Rattle.vpf_prims.specs.Reading.{PrimitiveTables, primitives_of}
use Rattle.vpf_prims.specs.Suiting.{HasColumns}
use Rattle.vpf_wing.specs.WellFormed.{IsWellFormed}
use Rattle.vpf_tiling.specs.Tiles.{tiled_library}
use Rattle.vpf_primitive_tables.specs.Inner.TileReading.Cuts.{IsCutInto}

-- what the tables of the tiles say is the tiled library of what the coverage says
abbrev pub CutsAreRead : Type 0
CutsAreRead = (T : PrimitiveTables) (plan : ℕ → ℕ) (tiles : ℕ) (c : CoverageTables) → HasColumns T → AreFilled T → IsWellFormed (primitives_of T)
    → IsCutInto T plan tiles c → library_of c ≡ tiled_library (primitives_of T) plan tiles

-- the tables have their columns, which are the same in all tiles
abbrev pub CutsHaveColumns : Type 0
CutsHaveColumns = (T : PrimitiveTables) (plan : ℕ → ℕ) (tiles : ℕ) (c : CoverageTables) → HasColumns T → AreNamedApart T
    → IsCutInto T plan tiles c → HaveColumns c
