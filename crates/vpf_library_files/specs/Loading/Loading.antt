-- The files of a coverage, read one after another up to the first that isn't taken (MIL-STD-2407, 5.2.2, primitives, and 5.2.3, tiled
-- coverages).
use Rattle.std.specs.Prelude.{◌≡◌, ℕ, ◌+◌, Bool, List, [], ◌∷◌, ◌++◌, length, Option, Some, None, is_some, Result, Ok, Err, codes, nat_eq, nat_le, if◌then◌else◌, slice_index_or}
use Rattle.std.specs.List.{ends_with, list_any}
use Rattle.vpf_base.specs.Limits.{most_bytes}
use Rattle.vpf_base.specs.declared.limits.TheConstants.{MOST_LOADED_BYTES}
use Rattle.vpf_source.specs.Files.{Files}
use Rattle.vpf_source.specs.declared.file.File.{File}
use Rattle.vpf_triplet.specs.declared.places.Place.{Place}
use Rattle.vpf_head.specs.Head.{varies_in}
use Rattle.vpf_source.specs.Names.Naming.{slash}
use Rattle.vpf_source.specs.Names.Indexes.{index_name}
use Rattle.vpf_table.specs.declared.limit.Limit.{Limit as Passed}
use Rattle.vpf_table.specs.declared.limit.Bound.TheVariants as bounds
use Rattle.vpf_table.specs.Grid.{Grid}
use Rattle.vpf_table.specs.Reading.{table_of}
use Rattle.vpf_table.specs.Opening.{opened_of}
use Rattle.vpf_library_files.specs.declared.loading.loading.LoadStop.{LoadStop}
use Rattle.vpf_library_files.specs.declared.loading.loading.LoadStop.TheVariants as stops
use Rattle.vpf_findings.specs.Printing.{own_of}
use Rattle.vpf_prims.specs.Coverages.{CoverageTables, untiled_coverage, tiled_coverage}
use Rattle.vpf_prims.specs.Reading.{PrimitiveTables}
use Rattle.vpf_prims.specs.Tables.{TileTables}
use Rattle.vpf_library_files.specs.Tileref.Stops.{TilerefStop, LimitStop, FindingStop, path_texts, tileref_stop}

-- the most bytes of all files that a run reads
abbrev pub most_loaded : ℕ
most_loaded = MOST_LOADED_BYTES

-- a name in a folder, with a slash between the two; the root has its own
abbrev pub within : List ℕ → List ℕ → List ℕ
within folder name = if ends_with nat_eq folder (slash ∷ []) then folder ++ name else folder ++ slash ∷ name

-- the table of tiles of a library
abbrev pub tileref_name : (lib : List ℕ) → List ℕ
tileref_name lib = within (within lib (codes "tileref")) (codes "tileref.aft")

-- what comes of reading when so many bytes were read before: a value or what stops it, and how many were read then
abbrev pub Read : Type 0 → Type 0
Read V = Result V LoadStop × ℕ

-- first one thing and then another; the first stop ends it
infixl 10 ◌and_then◌
abbrev pub ◌and_then◌ : {V W : Type 0} → Read V → (V → ℕ → Read W) → Read W
(Ok v, loaded) and_then next = next v loaded
(Err stop, loaded) and_then next = (Err stop, loaded)

-- a bound that a file passes
abbrev pub passes : {V : Type 0} → List ℕ → Passed → Result V LoadStop
passes name limit = Err (stops.Limit name limit)

-- the bytes of a file within the limits
abbrev pub read_bytes : List ℕ → List ℕ → ℕ → Read (Option (List ℕ))
read_bytes name bytes loaded =
    if nat_le (length bytes) most_bytes
    then (if nat_le (loaded + length bytes) most_loaded
    then (Ok (Some bytes), loaded + length bytes)
    else (passes name (record { what = bounds.Loaded; found = loaded + length bytes }), loaded))
    else (passes name (record { what = bounds.File; found = length bytes }), loaded)

-- the file of this name, which may be absent
abbrev pub read_found : List ℕ → Option (List ℕ) → ℕ → Read (Option (List ℕ))
read_found name None loaded = (Ok None, loaded)
read_found name (Some bytes) loaded = read_bytes name bytes loaded

abbrev pub read_optional : Files → List ℕ → ℕ → Read (Option (List ℕ))
read_optional files name loaded = read_found name (files name) loaded

-- a file that has to be there
abbrev pub required : List ℕ → Option (List ℕ) → ℕ → Read (List ℕ)
required name None loaded = (Err (stops.Missing name), loaded)
required name (Some bytes) loaded = (Ok bytes, loaded)

abbrev pub read_required : Files → List ℕ → ℕ → Read (List ℕ)
read_required files name loaded = read_optional files name loaded and_then required name

-- a table with its files: its own, and its index where its rows vary
pub record LoadedTable : Type 0 where
  pub grid : Grid
  pub files : List File

-- a file under its name
abbrev pub loaded_file : List ℕ → List ℕ → File
loaded_file name bytes = record { name = name; bytes = bytes }

-- a table, or its first fault
abbrev pub graded : {V : Type 0} → List ℕ → (Grid → ℕ → Read V) → Result Grid Place → ℕ → Read V
graded name over (Ok grid) loaded = over grid loaded
graded name over (Err place) loaded = (Err (stops.Place name place), loaded)

-- the table and its index, which has to be its own
abbrev pub with_own_index : (name bytes index : List ℕ) → ℕ → Read LoadedTable
with_own_index name bytes index loaded =
    graded (index_name name) (λ grid n. (Ok (record { grid = grid; files = loaded_file name bytes ∷ loaded_file (index_name name) index ∷ [] }), n)) (opened_of bytes (Some index)) loaded

-- the index of a table whose rows vary is read right after it
abbrev pub with_its_index : Files → (name bytes : List ℕ) → Grid → ℕ → Read LoadedTable
with_its_index files name bytes grid loaded =
    if varies_in grid.head.columns
    then read_required files (index_name name) loaded and_then with_own_index name bytes
    else (Ok (record { grid = grid; files = loaded_file name bytes ∷ [] }), loaded)

-- the table of some bytes, and its index where its rows vary
abbrev pub read_table_in : Files → (name bytes : List ℕ) → ℕ → Read LoadedTable
read_table_in files name bytes loaded = graded name (with_its_index files name bytes) (table_of bytes) loaded

-- a table that has to be there
abbrev pub read_table : Files → List ℕ → ℕ → Read LoadedTable
read_table files name loaded = read_required files name loaded and_then read_table_in files name

-- a table that may be absent
abbrev pub tabled : Files → List ℕ → Option (List ℕ) → ℕ → Read (Option LoadedTable)
tabled files name None loaded = (Ok None, loaded)
tabled files name (Some bytes) loaded = read_table_in files name bytes loaded and_then λ table n. (Ok (Some table), n)

abbrev pub read_optional_table : Files → List ℕ → ℕ → Read (Option LoadedTable)
read_optional_table files name loaded = read_optional files name loaded and_then tabled files name

-- the table and the files of one that may be absent
abbrev pub grid_in : Option LoadedTable → Option Grid
grid_in None = None
grid_in (Some table) = Some table.grid

abbrev pub files_in : Option LoadedTable → List File
files_in None = []
files_in (Some table) = table.files

-- the tables of a folder, with all their files in reading order
pub record LoadedTile : Type 0 where
  pub tables : PrimitiveTables
  pub files : List File

abbrev pub loaded_tile : (edg fac rng cnd : LoadedTable) → Option LoadedTable → LoadedTile
loaded_tile edg fac rng cnd end = record {
  tables = record { edg = edg.grid; fac = fac.grid; rng = rng.grid; cnd = cnd.grid; end = grid_in end };
  files = edg.files ++ (fac.files ++ (rng.files ++ (cnd.files ++ files_in end)));
}

-- where edges are there, faces, rings and connected nodes have to be, and entity nodes may be
abbrev pub read_rest : Files → (folder : List ℕ) → LoadedTable → ℕ → Read LoadedTile
read_rest files folder edg loaded =
    read_table files (within folder (codes "fac")) loaded and_then λ fac n.
    read_table files (within folder (codes "rng")) n and_then λ rng n.
    read_table files (within folder (codes "cnd")) n and_then λ cnd n.
    read_optional_table files (within folder (codes "end")) n and_then λ end n.
    (Ok (loaded_tile edg fac rng cnd end), n)

-- the edges decide: without them the folder has no tables
abbrev pub decided : Files → (folder : List ℕ) → Option LoadedTable → ℕ → Read (Option LoadedTile)
decided files folder None loaded = (Ok None, loaded)
decided files folder (Some edg) loaded = read_rest files folder edg loaded and_then λ tile n. (Ok (Some tile), n)

-- the tables of a folder, if it has any
abbrev pub read_tile : Files → (folder : List ℕ) → ℕ → Read (Option LoadedTile)
read_tile files folder loaded = read_optional_table files (within folder (codes "edg")) loaded and_then decided files folder

-- those of the tiles of a coverage, one after another, by the paths of their folders
abbrev pub read_tiles : Files → (folder : List ℕ) → List (List ℕ) → ℕ → Read (List (Option LoadedTile))
read_tiles files folder [] loaded = (Ok [], loaded)
read_tiles files folder (path ∷ paths) loaded =
    read_tile files (within folder path) loaded and_then λ tile n.
    read_tiles files folder paths n and_then λ tiles n.
    (Ok (tile ∷ tiles), n)

-- what ends the reading of the table of tiles stops the load
abbrev pub tileref_stopped : List ℕ → TilerefStop → LoadStop
tileref_stopped name (LimitStop limit) = stops.Limit name limit
tileref_stopped name (FindingStop d) = stops.Finding name (own_of d)

abbrev pub unless_stopped : {V : Type 0} → List ℕ → Option TilerefStop → V → ℕ → Read V
unless_stopped name None v loaded = (Ok v, loaded)
unless_stopped name (Some stop) v loaded = (Err (tileref_stopped name stop), loaded)

-- the table of tiles, which is looked at before any tile is read
abbrev pub read_tileref : Files → (lib : List ℕ) → ℕ → Read LoadedTable
read_tileref files lib loaded =
    read_table files (tileref_name lib) loaded and_then λ table n. unless_stopped (tileref_name lib) (tileref_stop table.grid) table n

-- the same of the bytes of its file
abbrev pub read_tileref_in : Files → (name bytes : List ℕ) → ℕ → Read LoadedTable
read_tileref_in files name bytes loaded = read_table_in files name bytes loaded and_then λ table n. unless_stopped name (tileref_stop table.grid) table n

-- the tables of tiles, each where the first of its files stands among all
abbrev pub placed : (at : ℕ) → List (Option LoadedTile) → List (Option TileTables)
placed at [] = []
placed at (None ∷ tiles) = None ∷ placed at tiles
placed at (Some tile ∷ tiles) = Some (record { first = at; tables = tile.tables }) ∷ placed (at + length tile.files) tiles

-- the files of all tiles
abbrev pub tiles_files : List (Option LoadedTile) → List File
tiles_files [] = []
tiles_files (None ∷ tiles) = tiles_files tiles
tiles_files (Some tile ∷ tiles) = tile.files ++ tiles_files tiles

-- a coverage, with all its files in reading order
pub record LoadedCoverage : Type 0 where
  pub coverage : CoverageTables
  pub files : List File

-- an untiled one
abbrev pub untiled_loaded : LoadedTile → LoadedCoverage
untiled_loaded tile = record { coverage = untiled_coverage (record { first = 0; tables = tile.tables }); files = tile.files }

-- a tiled one, behind the files of its table of tiles
abbrev pub tiled_loaded : LoadedTable → List (Option LoadedTile) → LoadedCoverage
tiled_loaded tileref tiles = record {
  coverage = tiled_coverage (path_texts tileref.grid) (placed (length tileref.files) tiles);
  files = tileref.files ++ tiles_files tiles;
}

-- some tile has tables
abbrev pub has_some : List (Option LoadedTile) → Bool
has_some tiles = list_any is_some tiles

-- where no tile has any, the edges of the first are missing
abbrev pub unless_empty : (folder : List ℕ) → List (List ℕ) → LoadedTable → List (Option LoadedTile) → ℕ → Read LoadedCoverage
unless_empty folder paths tileref tiles loaded =
    if has_some tiles
    then (Ok (tiled_loaded tileref tiles), loaded)
    else (Err (stops.Missing (within (within folder (slice_index_or paths 0 [])) (codes "edg"))), loaded)

-- a tiled coverage: the table of tiles, and then tile by tile
abbrev pub read_tiled : Files → (lib cov : List ℕ) → ℕ → Read LoadedCoverage
read_tiled files lib cov loaded =
    read_tileref files lib loaded and_then λ tileref n.
    read_tiles files (within lib cov) (path_texts tileref.grid) n and_then λ tiles n.
    unless_empty (within lib cov) (path_texts tileref.grid) tileref tiles n

-- a coverage whose folder has tables isn't tiled
abbrev pub untiled_or_tiled : Files → (lib cov : List ℕ) → Option LoadedTile → ℕ → Read LoadedCoverage
untiled_or_tiled files lib cov (Some tile) loaded = (Ok (untiled_loaded tile), loaded)
untiled_or_tiled files lib cov None loaded = read_tiled files lib cov loaded

-- the files of a coverage
abbrev pub read_coverage : Files → (lib cov : List ℕ) → ℕ → Read LoadedCoverage
read_coverage files lib cov loaded = read_tile files (within lib cov) loaded and_then untiled_or_tiled files lib cov

-- what stops a load; a fault of the tree and want of memory say nothing
abbrev pub stop_seen : LoadStop → Option LoadStop
stop_seen stops.Fault = None
stop_seen stops.NoMemory = None
stop_seen stop = Some stop

-- the files that are loaded, or what stops it
abbrev pub loaded_in : Result LoadedCoverage LoadStop → Result (List File) LoadStop
loaded_in (Ok c) = Ok c.files
loaded_in (Err stop) = Err stop

abbrev pub loaded_read : Read LoadedCoverage → Result (List File) LoadStop
loaded_read read = loaded_in read.0

-- the count of bytes after a load, where neither a fault of the tree nor want of memory stopped it
abbrev pub CountsAs : {V : Type 0} → Result V LoadStop → Read LoadedCoverage → ℕ → Type 0
CountsAs (Ok v) read loaded = loaded ≡ read.1
CountsAs (Err stops.Fault) read loaded = Unit {0}
CountsAs (Err stops.NoMemory) read loaded = Unit {0}
CountsAs (Err stop) read loaded = loaded ≡ read.1
