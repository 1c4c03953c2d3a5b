-- What is so of the files of the tiled library of every coverage.
use Rattle.std.specs.Prelude.{◌≢◌, ℕ, IsUtf8, List, [], length}
use Rattle.vpf_source.specs.Files.{Files}
use Rattle.vpf_table.specs.Grid.{Grid}
use Rattle.vpf_prims.specs.Reading.{PrimitiveTables, primitives_of}
use Rattle.vpf_library_files.specs.Loading.Holding.{HoldsCoverage}
use Rattle.vpf_library_files.specs.Loading.Loading.{LoadedCoverage}
use Rattle.vpf_library_files.specs.TableFiles.Adding.{files_made}
use Rattle.vpf_tiler.specs.TileFiles.Tables.{library_tables}
use Rattle.vpf_primitive_tables.specs.Inner.TileReading.Cuts.{IsCutInto}
use Rattle.vpf_tiler.specs.Inner.TiledFiles.Folders.{CanBeMade, HoldsExactly}

-- a folder of a tree holds the coverage, cut into tiles, under the name of the coverage
pub record HoldsCut (held : Files) (out cov : List ℕ) (T : PrimitiveTables) (plan : ℕ → ℕ) (tiles : ℕ) : Type 0 where
  pub loaded : LoadedCoverage
  pub cut : IsCutInto T plan tiles loaded.coverage
  pub holds : HoldsCoverage held out cov loaded

-- where a folder holds exactly the files of the tiled library, it holds the coverage cut into tiles; the names of the folder and of the coverage
-- are text, and the coverage has one
abbrev pub MadeIsHeld : Type 0
MadeIsHeld = (held : Files) (out cov : List ℕ) (T : PrimitiveTables) (plan : ℕ → ℕ) (tileref : Grid) → IsUtf8 out → IsUtf8 cov → cov ≢ []
    → CanBeMade cov T plan tileref → HoldsExactly held out (files_made (library_tables cov T (primitives_of T) plan tileref))
    → HoldsCut held out cov T plan (length tileref.rows)
