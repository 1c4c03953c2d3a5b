-- What a call that reads files of a run answers, and the count of bytes after it, against what reading gives.
use Rattle.std.specs.Prelude.{◌≡◌, ℕ, Bool, List, [], ◌∷◌, ◌++◌, Option, Some, None, Result, Ok, Err, IfSome, is_some}
use Rattle.vpf_source.specs.Files.{Files}
use Rattle.vpf_source.specs.declared.file.File.{File}
use Rattle.vpf_triplet.specs.declared.places.Place.{Place}
use Rattle.vpf_table.specs.Grid.{Grid}
use Rattle.vpf_library_files.specs.declared.loading.loading.LoadStop.{LoadStop}
use Rattle.vpf_library_files.specs.declared.loading.loading.LoadStop.TheVariants as stops
use Rattle.vpf_findings.specs.Findings.{disagreement_of}
use Rattle.vpf_findings.specs.Printing.{own_of}
use Rattle.vpf_library_files.specs.Tileref.Stops.{path_texts, tileref_stop}
use Rattle.vpf_library_files.specs.declared.tileref.errors.TilerefError.{TilerefError}
use Rattle.vpf_library_files.specs.declared.tileref.errors.TilerefError.TheVariants as errors
use Rattle.vpf_library_files.specs.Loading.Loading.{Read, LoadedCoverage, LoadedTable, LoadedTile, files_in, graded, grid_in, has_some, stop_seen, tiles_files, within}
use Rattle.vpf_library_files.specs.Loading.Holding.{AreCoverageFiles, AreFilesOf, AreFilesOfOption, AreTileFiles, AreTiledFiles}

-- reading comes to a value, which is the one that was answered, and to so many bytes
pub record ReadsValue {V W : Type 0} (Is : V → W → Type 0) (answered : V) (loaded : ℕ) (read : Read W) : Type 0 where
  pub value : W
  pub comes : read ≡ (Ok value, loaded)
  pub is : Is answered value

-- reading is stopped so, if that is seen
abbrev pub ReadsStop : {W : Type 0} → LoadStop → ℕ → Read W → Type 0
ReadsStop stop loaded read = IfSome (stop_seen stop) (λ seen. read ≡ (Err seen, loaded))

-- reading comes to what was answered, and to so many bytes, unless the tree failed or memory ran out
abbrev pub ReadsAs : {V W : Type 0} → (V → W → Type 0) → Result V LoadStop → ℕ → Read W → Type 0
ReadsAs Is (Ok answered) loaded read = ReadsValue Is answered loaded read
ReadsAs Is (Err stop) loaded read = ReadsStop stop loaded read

-- a table is refused so, whatever is read after it
abbrev pub RefusedSo : List ℕ → Result Grid Place → LoadStop → Type 0
RefusedSo name table stop = (over : Grid → ℕ → Read LoadedTable) (loaded : ℕ) → ReadsStop stop loaded (graded name over table loaded)

-- a value that may be there, in a list
abbrev pub maybe : {V : Type 0} → Option V → List V
maybe None = []
maybe (Some v) = v ∷ []

-- reading comes to one value and to so many bytes over all files that a tree may tell
pub record Comes {W : Type 0} (told : Option Files) (reading : Files → Read W) (Is : W → Type 0) (loaded : ℕ) : Type 0 where
  pub value : W
  pub is : Is value
  pub comes : (held : Files) → told ≡ Some held → reading held ≡ (Ok value, loaded)

-- the same of what was answered, unless the tree failed or memory ran out
abbrev pub LoadsAs : {V W : Type 0} → Option Files → (Files → Read W) → (V → W → Type 0) → Result V LoadStop → ℕ → Type 0
LoadsAs told reading Is (Ok answered) loaded = Comes told reading (Is answered) loaded
LoadsAs told reading Is (Err stop) loaded = (held : Files) → told ≡ Some held → ReadsStop stop loaded (reading held)

-- the table that was read is this one, of these files
pub record IsTableFound (grid : Grid) (files : List File) (table : LoadedTable) : Type 0 where
  pub grid_is : table.grid ≡ grid
  pub files_are : table.files ≡ files

-- the files of a table stand behind those that were there
pub record AddsTable (name : List ℕ) (old new : List File) (table : LoadedTable) : Type 0 where
  pub behind : new ≡ old ++ table.files
  pub are : AreFilesOf name table.grid table.files

-- the same of a table that may be absent
pub record AddsOption (name : List ℕ) (old new : List File) (there : Bool) (table : Option LoadedTable) : Type 0 where
  pub tells : there ≡ is_some table
  pub behind : new ≡ old ++ files_in table
  pub are : AreFilesOfOption name (grid_in table) (files_in table)

-- of all tables of a folder
pub record AddsRest (folder : List ℕ) (old new : List File) (tile : LoadedTile) : Type 0 where
  pub behind : new ≡ old ++ tile.files
  pub are : AreTileFiles folder tile.tables tile.files

-- the files of a folder that may have no tables
abbrev pub AreFilesOfTile : (folder : List ℕ) → Option LoadedTile → Type 0
AreFilesOfTile folder None = Unit {0}
AreFilesOfTile folder (Some tile) = AreTileFiles folder tile.tables tile.files

-- they stand behind those that were there, and it is told whether there are tables
pub record AddsTile (folder : List ℕ) (old new : List File) (there : Bool) (tile : Option LoadedTile) : Type 0 where
  pub tells : there ≡ is_some tile
  pub behind : new ≡ old ++ tiles_files (tile ∷ [])
  pub are : AreFilesOfTile folder tile

-- those of the folders of some tiles
abbrev pub AreFilesOfTiles : (folder : List ℕ) → List (List ℕ) → List (Option LoadedTile) → Type 0
AreFilesOfTiles folder [] [] = Unit {0}
AreFilesOfTiles folder [] (tile ∷ tiles) = ⊥
AreFilesOfTiles folder (path ∷ paths) [] = ⊥
AreFilesOfTiles folder (path ∷ paths) (tile ∷ tiles) = AreFilesOfTile (within folder path) tile × AreFilesOfTiles folder paths tiles

-- they stand behind those that were there, and it is told whether any tile has tables
pub record AddsTiles (folder : List ℕ) (paths : List (List ℕ)) (old new : List File) (some : Bool) (tiles : List (Option LoadedTile)) : Type 0 where
  pub tells : some ≡ has_some tiles
  pub behind : new ≡ old ++ tiles_files tiles
  pub are : AreFilesOfTiles folder paths tiles

-- nothing ends the reading of this table of tiles, and these are its paths
pub record IsTilerefOf (table : LoadedTable) (paths : List (List ℕ)) (read : LoadedTable) : Type 0 where
  pub is : read ≡ table
  pub goes_on : tileref_stop table.grid ≡ None
  pub names : paths ≡ path_texts table.grid

-- the stop of a load is what ended the reading of the table of tiles of this name, if that is seen
abbrev pub IsTilerefStop : (name : List ℕ) → TilerefError → LoadStop → Type 0
IsTilerefStop name (errors.Limit limit) stop = stop ≡ stops.Limit name limit
IsTilerefStop name (errors.Finding f) stop = stop ≡ stops.Finding name (own_of (disagreement_of f))
IsTilerefStop name errors.NoMemory stop = stop ≡ stops.NoMemory

-- all files are those of the table of tiles
pub record LoadsTileref (name : List ℕ) (files : List File) (paths : List (List ℕ)) (table : LoadedTable) : Type 0 where
  pub all : files ≡ table.files
  pub are : AreFilesOf name table.grid table.files
  pub goes_on : tileref_stop table.grid ≡ None
  pub names : paths ≡ path_texts table.grid

-- all files are those of the tiled coverage
pub record LoadsTiled (lib cov : List ℕ) (files : List File) (c : LoadedCoverage) : Type 0 where
  pub all : files ≡ c.files
  pub are : AreTiledFiles lib cov c.coverage c.files

-- all files are those of the coverage
pub record LoadsCoverage (lib cov : List ℕ) (files : List File) (c : LoadedCoverage) : Type 0 where
  pub all : files ≡ c.files
  pub are : AreCoverageFiles lib cov c.coverage c.files
