-- What is so of the files of every coverage.
use Rattle.std.specs.Prelude.{◌≡◌, ℕ, List, Some, Ok}
use Rattle.std.specs.List.{IsDistinct}
use Rattle.vpf_source.specs.Files.{Files, HoldsBytes}
use Rattle.vpf_source.specs.declared.file.File.{File}
use Rattle.vpf_head.specs.Folding.{same_name}
use Rattle.vpf_head.specs.Head.{names}
use Rattle.vpf_table.specs.Grid.{Grid}
use Rattle.vpf_prims.specs.Coverages.{CoverageTables, tile_at}
use Rattle.vpf_prims.specs.Inner.Laws.{AreFilled}
use Rattle.vpf_prims.specs.Libraries.{IsLibrary, library_of}
use Rattle.vpf_prims.specs.Reading.{PrimitiveTables}
use Rattle.vpf_prims.specs.Tables.{TileTables}
use Rattle.vpf_library_files.specs.Loading.Loading.{LoadedCoverage, read_coverage}
use Rattle.vpf_library_files.specs.Loading.Holding.{AreCoverageFiles, HoldsCoverage, bytes_in}

-- a coverage is read exactly where the tree, whose files are of bytes, holds it within the limits
abbrev pub HeldIsRead : Type 0
HeldIsRead = (held : Files) (lib cov : List ℕ) (c : LoadedCoverage) → HoldsCoverage held lib cov c → read_coverage held lib cov 0 ≡ (Ok c, bytes_in c.files)

abbrev pub ReadIsHeld : Type 0
ReadIsHeld = (held : Files) (lib cov : List ℕ) (c : LoadedCoverage) (loaded : ℕ) → HoldsBytes held → read_coverage held lib cov 0 ≡ (Ok c, loaded) → HoldsCoverage held lib cov c

-- no two columns of a table have the same name, in any case
abbrev pub IsNamedApart : Grid → Type 0
IsNamedApart grid = IsDistinct same_name (names grid.head.columns)

-- the same of all tables of a tile
pub record AreNamedApart (t : PrimitiveTables) : Type 0 where
  pub edg : IsNamedApart t.edg
  pub fac : IsNamedApart t.fac
  pub rng : IsNamedApart t.rng
  pub cnd : IsNamedApart t.cnd
  pub end : (grid : Grid) → t.end ≡ Some grid → IsNamedApart grid

-- the tiles of a coverage that files are, are those of a library
abbrev pub FilesAreLibraries : Type 0
FilesAreLibraries = (lib cov : List ℕ) (c : CoverageTables) (files : List File) → AreCoverageFiles lib cov c files → IsLibrary (library_of c)

-- their rows are whole, and the names of their columns apart
abbrev pub FilesAreWhole : Type 0
FilesAreWhole = (lib cov : List ℕ) (c : CoverageTables) (files : List File) → AreCoverageFiles lib cov c files
    → (t : ℕ) (T : TileTables) → tile_at c t ≡ Some T → AreFilled T.tables × AreNamedApart T.tables
