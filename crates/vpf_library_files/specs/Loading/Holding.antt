-- That files hold the tables of a coverage, by the grammar of tables and indexes alone.
use Rattle.std.specs.Prelude.{◌≡◌, ◌⊎◌, ℕ, ◌+◌, ◌≤◌, true, false, List, [], ◌∷◌, ◌++◌, length, drop, Option, Some, None, is_some, codes}
use Rattle.std.specs.List.{list_any}
use Rattle.vpf_base.specs.Limits.{most_bytes}
use Rattle.vpf_source.specs.Files.{Files}
use Rattle.vpf_source.specs.declared.file.File.{File}
use Rattle.vpf_head.specs.Head.{varies_in}
use Rattle.vpf_source.specs.Names.Indexes.{index_name}
use Rattle.vpf_table.specs.Grid.{Grid}
use Rattle.vpf_table.specs.Spans.{IsOpened}
use Rattle.vpf_prims.specs.Coverages.{CoverageTables, tile_at, tiled_coverage, untiled_coverage}
use Rattle.vpf_prims.specs.Reading.{PrimitiveTables}
use Rattle.vpf_prims.specs.Tables.{TileTables}
use Rattle.vpf_library_files.specs.Tileref.Stops.{IsBounded, path_texts}
use Rattle.vpf_library_files.specs.Tileref.Tileref.{IsTileref}
use Rattle.vpf_library_files.specs.Loading.Loading.{LoadedCoverage, loaded_file, most_loaded, tileref_name, within}

-- one file is the table, whose rows are of one length
pub record IsPlainTable (name : List ℕ) (grid : Grid) (files : List File) : Type 0 where
  pub bytes : List ℕ
  pub are : files ≡ loaded_file name bytes ∷ []
  pub opened : IsOpened grid bytes None
  pub one_length : varies_in grid.head.columns ≡ false

-- two files are the table, whose rows vary, and its index
pub record IsIndexedTable (name : List ℕ) (grid : Grid) (files : List File) : Type 0 where
  pub bytes : List ℕ
  pub index : List ℕ
  pub are : files ≡ loaded_file name bytes ∷ loaded_file (index_name name) index ∷ []
  pub opened : IsOpened grid bytes (Some index)
  pub varies : varies_in grid.head.columns ≡ true

-- these files are the table of this name
abbrev pub AreFilesOf : List ℕ → Grid → List File → Type 0
AreFilesOf name grid files = IsPlainTable name grid files ⊎ IsIndexedTable name grid files

-- the same of a table that may be absent
abbrev pub AreFilesOfOption : List ℕ → Option Grid → List File → Type 0
AreFilesOfOption name None files = files ≡ []
AreFilesOfOption name (Some grid) files = AreFilesOf name grid files

-- these files are the tables of a folder, in reading order
pub record AreTileFiles (folder : List ℕ) (tables : PrimitiveTables) (files : List File) : Type 0 where
  pub edg : List File
  pub fac : List File
  pub rng : List File
  pub cnd : List File
  pub end : List File
  pub are : files ≡ edg ++ (fac ++ (rng ++ (cnd ++ end)))
  pub edg_is : AreFilesOf (within folder (codes "edg")) tables.edg edg
  pub fac_is : AreFilesOf (within folder (codes "fac")) tables.fac fac
  pub rng_is : AreFilesOf (within folder (codes "rng")) tables.rng rng
  pub cnd_is : AreFilesOf (within folder (codes "cnd")) tables.cnd cnd
  pub end_is : AreFilesOfOption (within folder (codes "end")) tables.end end

-- these files are the tables of the tiles with these paths, tile by tile, the first of them at this place among all; an empty tile has no files
abbrev pub AreTilesFiles : (folder : List ℕ) → (at : ℕ) → List (List ℕ) → List (Option TileTables) → List File → Type 0
AreTilesFiles folder at [] [] files = files ≡ []
AreTilesFiles folder at [] (tile ∷ tiles) files = ⊥
AreTilesFiles folder at (path ∷ paths) [] files = ⊥
AreTilesFiles folder at (path ∷ paths) (None ∷ tiles) files = AreTilesFiles folder at paths tiles files
AreTilesFiles folder at (path ∷ paths) (Some T ∷ tiles) files =
    (here : List File) × (rest : List File) × (files ≡ here ++ rest) × (T.first ≡ at) × AreTileFiles (within folder path) T.tables here
    × AreTilesFiles folder (at + length here) paths tiles rest

-- these files are an untiled coverage: the tables of its own folder
pub record AreUntiledFiles (lib cov : List ℕ) (c : CoverageTables) (files : List File) : Type 0 where
  pub tables : PrimitiveTables
  pub is : c ≡ untiled_coverage (record { first = 0; tables = tables })
  pub are : AreTileFiles (within lib cov) tables files

-- these files are a tiled coverage: the table of tiles of its library, and the tables of its tiles, not all of them empty
pub record AreTiledFiles (lib cov : List ℕ) (c : CoverageTables) (files : List File) : Type 0 where
  pub tileref : Grid
  pub tiles : List (Option TileTables)
  pub before : List File
  pub behind : List File
  pub is : c ≡ tiled_coverage (path_texts tileref) tiles
  pub are : files ≡ before ++ behind
  pub tileref_is : AreFilesOf (tileref_name lib) tileref before
  pub right : IsTileref tileref
  pub bounded : IsBounded tileref
  pub tiles_are : AreTilesFiles (within lib cov) (length before) (path_texts tileref) tiles behind
  pub some : list_any is_some tiles ≡ true

-- these files are a coverage
abbrev pub AreCoverageFiles : (lib cov : List ℕ) → CoverageTables → List File → Type 0
AreCoverageFiles lib cov c files = AreUntiledFiles lib cov c files ⊎ AreTiledFiles lib cov c files

-- they are some coverage
abbrev pub AreOfCoverage : (lib cov : List ℕ) → List File → Type 0
AreOfCoverage lib cov files = (c : CoverageTables) × AreCoverageFiles lib cov c files

-- how many bytes some files have
abbrev pub bytes_in : List File → ℕ
bytes_in [] = 0
bytes_in (file ∷ files) = length file.bytes + bytes_in files

-- a tree holds these files, none of them larger than a file may be
abbrev pub AreHeld : Files → List File → Type 0
AreHeld files [] = Unit {0}
AreHeld files (file ∷ rest) = (files file.name ≡ Some file.bytes) × (length file.bytes ≤ most_bytes) × AreHeld files rest

-- what a tree lacks of a folder: of one that is empty the edges, and where there is no table of entity nodes, that
abbrev pub LacksOfTile : Files → (folder : List ℕ) → Option TileTables → Type 0
LacksOfTile held folder None = held (within folder (codes "edg")) ≡ None
LacksOfTile held folder (Some T) = T.tables.end ≡ None → held (within folder (codes "end")) ≡ None

-- the same of all tiles
abbrev pub LacksOfTiles : Files → (folder : List ℕ) → List (List ℕ) → List (Option TileTables) → Type 0
LacksOfTiles held folder [] tiles = Unit {0}
LacksOfTiles held folder (path ∷ paths) [] = Unit {0}
LacksOfTiles held folder (path ∷ paths) (tile ∷ tiles) = LacksOfTile held (within folder path) tile × LacksOfTiles held folder paths tiles

-- a tree holds a coverage: its tables with the indexes of those whose rows vary, within the limits; no edges in the folder of a tiled
-- coverage or of an empty tile, and no table of entity nodes where there is none
pub record HoldsCoverage (held : Files) (lib cov : List ℕ) (c : LoadedCoverage) : Type 0 where
  pub are : AreCoverageFiles lib cov c.coverage c.files
  pub there : AreHeld held c.files
  pub few : bytes_in c.files ≤ most_loaded
  pub own : LacksOfTile held (within lib cov) (tile_at c.coverage 0)
  pub tiles : LacksOfTiles held (within lib cov) c.coverage.paths (drop 1 c.coverage.tiles)
