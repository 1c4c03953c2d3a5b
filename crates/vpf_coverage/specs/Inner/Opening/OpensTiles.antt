-- Files that are opened as the tables of a coverage, tile by tile.
use Rattle.std.specs.Prelude.{◌≡◌, ◌⊎◌, ℕ, ◌+◌, List, [], ◌∷◌, Option, Some, None}
use Rattle.std.specs.Option.{option_map}
use Rattle.vpf_source.specs.declared.file.File.{File}
use Rattle.vpf_table.specs.Grid.{Grid}
use Rattle.vpf_prims.specs.Coverages.{CoverageTables, tiled_coverage, untiled_coverage}
use Rattle.vpf_prims.specs.Reading.{PrimitiveTables}
use Rattle.vpf_prims.specs.Tables.{TileTables, files_of_grid}
use Rattle.vpf_library_files.specs.Tileref.Stops.{path_texts, tileref_stop}
use Rattle.vpf_library_files.specs.Loading.Loading.{within}
use Rattle.vpf_library_files.specs.Loading.Holding.{AreCoverageFiles}
use Rattle.vpf_coverage.specs.Inner.Opening.Opens.{Opens, OpensFolder, files_of_folder}

-- the tables of a tile, wherever its files stand
abbrev pub tables_in_tile : Option TileTables → Option PrimitiveTables
tables_in_tile tile = option_map (λ (T : TileTables). T.tables) tile

-- the files of a tile stand there; one that is empty stands anywhere
abbrev pub TileStandsAt : ℕ → Option TileTables → Type 0
TileStandsAt at None = Unit {0}
TileStandsAt at (Some T) = T.first ≡ at

-- files are opened as the tables of the tiles with these paths, the first of them at this place among all
abbrev pub OpensTiles : (folder : List ℕ) → (at : ℕ) → List (List ℕ) → List (Option TileTables) → List File → Type 0
OpensTiles folder at [] [] files = Unit {0}
OpensTiles folder at [] (tile ∷ tiles) files = ⊥
OpensTiles folder at (path ∷ paths) [] files = ⊥
OpensTiles folder at (path ∷ paths) (tile ∷ tiles) files =
    (rest : List File) × TileStandsAt at tile × OpensFolder (within folder path) (tables_in_tile tile) rest files
    × OpensTiles folder (at + files_of_folder (tables_in_tile tile)) paths tiles rest

-- they are opened as some tiles
abbrev pub AreOpeningTiles : (folder : List ℕ) → (at : ℕ) → List (List ℕ) → List File → Type 0
AreOpeningTiles folder at paths files = (tiles : List (Option TileTables)) × OpensTiles folder at paths tiles files

-- they are opened as the table of tiles, which is right, and is left behind
pub record OpensTileref (tileref : Grid) (rest files : List File) : Type 0 where
  pub opens : Opens tileref rest files
  pub right : tileref_stop tileref ≡ None

-- they are opened as some table of tiles
abbrev pub IsOpeningTileref : List File → Type 0
IsOpeningTileref files = (tileref : Grid) × (rest : List File) × OpensTileref tileref rest files

-- they are opened as a tiled coverage
pub record OpensTiled (folder : List ℕ) (c : CoverageTables) (files : List File) : Type 0 where
  pub tileref : Grid
  pub tiles : List (Option TileTables)
  pub behind : List File
  pub is : c ≡ tiled_coverage (path_texts tileref) tiles
  pub none : OpensFolder folder None files files
  pub tileref_is : OpensTileref tileref behind files
  pub tiles_are : OpensTiles folder (files_of_grid tileref) (path_texts tileref) tiles behind

-- they are opened as an untiled coverage
pub record OpensUntiled (folder : List ℕ) (c : CoverageTables) (files : List File) : Type 0 where
  pub tables : PrimitiveTables
  pub is : c ≡ untiled_coverage (record { first = 0; tables = tables })
  pub are : OpensFolder folder (Some tables) [] files

-- they are opened as a coverage
abbrev pub OpensCoverage : (folder : List ℕ) → CoverageTables → List File → Type 0
OpensCoverage folder c files = OpensUntiled folder c files ⊎ OpensTiled folder c files

-- they are opened as some tiled coverage
abbrev pub IsOpeningTiled : (folder : List ℕ) → List File → Type 0
IsOpeningTiled folder files = (c : CoverageTables) × OpensTiled folder c files

-- they are opened as some coverage
abbrev pub IsOpeningCoverage : (folder : List ℕ) → List File → Type 0
IsOpeningCoverage folder files = (c : CoverageTables) × OpensCoverage folder c files

-- the files of a coverage are opened as its tables
abbrev pub FilesOpen : Type 0
FilesOpen = (lib cov : List ℕ) (c : CoverageTables) (files : List File) → AreCoverageFiles lib cov c files → OpensCoverage (within lib cov) c files
