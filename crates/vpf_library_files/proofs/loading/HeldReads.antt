-- A coverage that a tree holds is read.
use Rattle.std.proofs.Common.{[], ◌≡◌, ◌∙◌, inl, inr, ℕ, ◌+◌, ◌≤◌, true, List, ◌∷◌, ◌++◌, length, Option, None, Some, Ok, refl, sym, ap, subst, arith}
use Rattle.std.specs.Prelude.{codes, drop, is_some}
use Rattle.std.specs.List.{list_any}
use Rattle.vpf_source.specs.Files.{Files}
use Rattle.vpf_source.specs.declared.file.File.{File}
use Rattle.vpf_table.specs.Grid.{Grid}
use Rattle.vpf_prims.specs.Coverages.{CoverageTables, tile_at, tiled_coverage}
use Rattle.vpf_prims.specs.Reading.{PrimitiveTables}
use Rattle.vpf_prims.specs.Tables.{TileTables}
use Rattle.vpf_library_files.specs.Inner.Tileref.Laws.{StopsDecide}
use Rattle.vpf_library_files.specs.Tileref.Stops.{path_texts, tileref_stop}
use Rattle.vpf_library_files.specs.Loading.Loading.{LoadedCoverage, LoadedTable, LoadedTile, files_in, grid_in, has_some, loaded_tile, most_loaded, placed, read_coverage, read_optional, read_optional_table, read_tile, read_tileref, read_tiles, tiled_loaded, tileref_name, tiles_files, untiled_loaded, within}
use Rattle.vpf_library_files.specs.Loading.Holding.{AreFilesOf, AreFilesOfOption, AreHeld, AreTileFiles, AreTiledFiles, AreTilesFiles, AreUntiledFiles, HoldsCoverage, LacksOfTile, LacksOfTiles, bytes_in}
use Rattle.vpf_library_files.specs.Inner.Loading.Laws.{HeldIsRead}
use Rattle.vpf_library_files.specs.Inner.Loading.FileLaws.{both_held, bytes_of_both}
use Rattle.vpf_library_files.specs.Inner.Loading.StepLaws.{gives}
use Rattle.vpf_library_files.proofs.loading.TileLemmas.{rest_read, tile_read}
use Rattle.vpf_library_files.proofs.loading.TiledLemmas.{none_own, own_read, placed_some, tiled_read}
use Rattle.vpf_library_files.specs.Inner.Loading.HeldLaws.{SpelledAreOpened, held_is_loaded, loads_either, table_of_grid}

-- the table of some files, where there is one
abbrev table_of_files : Option Grid → List File → Option LoadedTable
table_of_files None files = None
table_of_files (Some grid) files = Some (record { grid = grid; files = files })

option_read : SpelledAreOpened → (held : Files) (name : List ℕ) (grid : Option Grid) (files : List File) (m : ℕ)
    → AreFilesOfOption name grid files → AreHeld held files
    → (grid ≡ None → held name ≡ None) → m + bytes_in files ≤ most_loaded
    → read_optional_table held name m ≡ (Ok (table_of_files grid files), m + bytes_in files)
option_read laws held name None files m none h absent few =
    let sum : m ≡ m + 0 = omega arith in
    rw (none, absent refl) (ap (λ (n : ℕ). (Ok None, n)) sum)
option_read laws held name (Some grid) files m p h absent few =
    loads_either held name (read_optional held name m) (record { grid = grid; files = files }) (m + bytes_in files) (held_is_loaded laws held name grid files m p h few)

-- the grid and the files of the last table
grid_same : (grid : Option Grid) (files : List File) → grid_in (table_of_files grid files) ≡ grid
grid_same None files = refl
grid_same (Some grid) files = refl

files_same : (name : List ℕ) (grid : Option Grid) (files : List File) → AreFilesOfOption name grid files → files_in (table_of_files grid files) ≡ files
files_same name None files p = sym p
files_same name (Some grid) files p = refl

-- what is loaded is the tile
abbrev tile_from : PrimitiveTables → List File → LoadedTile
tile_from tables files = record { tables = tables; files = files }

tile_same : (t : PrimitiveTables) (all e f r k n : List File) (end : Option LoadedTable) → grid_in end ≡ t.end → files_in end ≡ n
    → all ≡ e ++ (f ++ (r ++ (k ++ n)))
    → loaded_tile (table_of_grid t.edg e) (table_of_grid t.fac f) (table_of_grid t.rng r) (table_of_grid t.cnd k) end ≡ tile_from t all
tile_same t all e f r k n end grid files are = rw (grid, files) (ap (tile_from t) (sym are))

tile_gives : (x y : LoadedTile) (m n : ℕ) → x ≡ y → m ≡ n → gives (Some x) m ≡ gives (Some y) n
tile_gives x y m n e f = rw (e, f) refl

tile_held : SpelledAreOpened → (held : Files) (folder : List ℕ) (t : PrimitiveTables) (files : List File) (m : ℕ) → AreTileFiles folder t files → AreHeld held files
    → (t.end ≡ None → held (within folder (codes "end")) ≡ None) → m + bytes_in files ≤ most_loaded
    → read_tile held folder m ≡ (Ok (Some (tile_from t files)), m + bytes_in files)
tile_held laws held folder t files m a there absent few =
    let there0 = both_held held a.edg (a.fac ++ (a.rng ++ (a.cnd ++ a.end))) (subst (λ (x : List File). AreHeld held x) a.are there) in
    let there1 = both_held held a.fac (a.rng ++ (a.cnd ++ a.end)) there0.1 in
    let there2 = both_held held a.rng (a.cnd ++ a.end) there1.1 in
    let there3 = both_held held a.cnd a.end there2.1 in
    let whole = ap bytes_in a.are in
    let sum0 = bytes_of_both a.edg (a.fac ++ (a.rng ++ (a.cnd ++ a.end))) in
    let sum1 = bytes_of_both a.fac (a.rng ++ (a.cnd ++ a.end)) in
    let sum2 = bytes_of_both a.rng (a.cnd ++ a.end) in
    let sum3 = bytes_of_both a.cnd a.end in
    let n1 = m + bytes_in a.edg in
    let n2 = n1 + bytes_in a.fac in
    let n3 = n2 + bytes_in a.rng in
    let n4 = n3 + bytes_in a.cnd in
    let n5 = n4 + bytes_in a.end in
    let all : n5 ≡ m + bytes_in files = omega (arith, whole, sum0, sum1, sum2, sum3) in
    let most : n5 ≤ most_loaded = omega (arith, few, all) in
    let edg = held_is_loaded laws held (within folder (codes "edg")) t.edg a.edg m a.edg_is there0.0 (omega (arith, most)) in
    let first = loads_either held (within folder (codes "edg")) (read_optional held (within folder (codes "edg")) m) (table_of_grid t.edg a.edg) n1 edg in
    let fac = held_is_loaded laws held (within folder (codes "fac")) t.fac a.fac n1 a.fac_is there1.0 (omega (arith, most)) in
    let rng = held_is_loaded laws held (within folder (codes "rng")) t.rng a.rng n2 a.rng_is there2.0 (omega (arith, most)) in
    let cnd = held_is_loaded laws held (within folder (codes "cnd")) t.cnd a.cnd n3 a.cnd_is there3.0 (omega (arith, most)) in
    let end = option_read laws held (within folder (codes "end")) t.end a.end n4 a.end_is there3.1 absent most in
    let last = table_of_files t.end a.end in
    let rest = rest_read held folder n1 n2 n3 n4 n5 (table_of_grid t.edg a.edg) (table_of_grid t.fac a.fac) (table_of_grid t.rng a.rng) (table_of_grid t.cnd a.cnd) last fac rng cnd end in
    let made = loaded_tile (table_of_grid t.edg a.edg) (table_of_grid t.fac a.fac) (table_of_grid t.rng a.rng) (table_of_grid t.cnd a.cnd) last in
    let same : made ≡ tile_from t files =
    tile_same t files a.edg a.fac a.rng a.cnd a.end last (grid_same t.end a.end) (files_same (within folder (codes "end")) t.end a.end a.end_is) a.are in
    tile_read held folder m n1 n5 (table_of_grid t.edg a.edg) made first rest ∙ tile_gives made (tile_from t files) n5 (m + bytes_in files) same all

-- a folder without edges has no tables
none_held : (held : Files) (folder : List ℕ) (m : ℕ) → held (within folder (codes "edg")) ≡ None → read_tile held folder m ≡ (Ok None, m)
none_held held folder m e = rw e refl

-- the tiles of a coverage
record TilesHeld (held : Files) (folder : List ℕ) (at : ℕ) (paths : List (List ℕ)) (tiles : List (Option TileTables)) (files : List File) (m : ℕ) : Type 0 where
  loaded : List (Option LoadedTile)
  read : read_tiles held folder paths m ≡ (Ok loaded, m + bytes_in files)
  are : placed at loaded ≡ tiles
  all : tiles_files loaded ≡ files

none_more : (held : Files) (folder path : List ℕ) (paths : List (List ℕ)) (loaded : List (Option LoadedTile)) (m n : ℕ)
    → read_tile held (within folder path) m ≡ (Ok None, m) → read_tiles held folder paths m ≡ (Ok loaded, n)
    → read_tiles held folder (path ∷ paths) m ≡ (Ok (None ∷ loaded), n)
none_more held folder path paths loaded m n e f = rw (e, f) refl

some_more : (held : Files) (folder path : List ℕ) (paths : List (List ℕ)) (tile : LoadedTile) (loaded : List (Option LoadedTile)) (m n k : ℕ)
    → read_tile held (within folder path) m ≡ (Ok (Some tile), n) → read_tiles held folder paths n ≡ (Ok loaded, k)
    → read_tiles held folder (path ∷ paths) m ≡ (Ok (Some tile ∷ loaded), k)
some_more held folder path paths tile loaded m n k e f = rw (e, f) refl

tiles_count : (loaded : List (Option LoadedTile)) (m n : ℕ) → m ≡ n → gives loaded m ≡ gives loaded n
tiles_count loaded m n e = rw e refl

placed_so : (at : ℕ) (T : TileTables) (tiles placed : List (Option TileTables)) → T.first ≡ at → placed ≡ tiles
    → Some (record { first = at; tables = T.tables }) ∷ placed ≡ Some T ∷ tiles
placed_so at T tiles placed e f = rw (f, sym e) refl

tiles_held : SpelledAreOpened → (held : Files) (folder : List ℕ) (at : ℕ) (paths : List (List ℕ)) (tiles : List (Option TileTables)) (files : List File) (m : ℕ)
    → AreTilesFiles folder at paths tiles files → AreHeld held files → LacksOfTiles held folder paths tiles → m + bytes_in files ≤ most_loaded
    → TilesHeld held folder at paths tiles files m
tiles_held laws held folder at [] [] files m are there lacks few =
    let none : m ≡ m + bytes_in files = let e = ap bytes_in are in omega (arith, e) in
    record { loaded = []; read = tiles_count [] m (m + bytes_in files) none; are = refl; all = sym are }
tiles_held laws held folder at [] (tile ∷ tiles) files m are there lacks few = absurd are
tiles_held laws held folder at (path ∷ paths) [] files m are there lacks few = absurd are
tiles_held laws held folder at (path ∷ paths) (None ∷ tiles) files m are there lacks few =
    let r = tiles_held laws held folder at paths tiles files m are there lacks.1 few in
    record {
      loaded = None ∷ r.loaded;
      read = none_more held folder path paths r.loaded m (m + bytes_in files) (none_held held (within folder path) m lacks.0) r.read;
      are = ap (λ (x : List (Option TileTables)). None ∷ x) r.are;
      all = r.all;
    }
tiles_held laws held folder at (path ∷ paths) (Some T ∷ tiles) files m are there lacks few =
    let here = are.0 in
    let rest = are.1 in
    let both = both_held held here rest (subst (λ (x : List File). AreHeld held x) are.2 there) in
    let whole = ap bytes_in are.2 in
    let sum = bytes_of_both here rest in
    let n = m + bytes_in here in
    let all : n + bytes_in rest ≡ m + bytes_in files = omega (arith, whole, sum) in
    let first = tile_held laws held (within folder path) T.tables here m are.4 both.0 lacks.0 (omega (arith, few, all)) in
    let r = tiles_held laws held folder (at + length here) paths tiles rest n are.5 both.1 lacks.1 (omega (arith, few, all)) in
    let tile = tile_from T.tables here in
    record {
      loaded = Some tile ∷ r.loaded;
      read = some_more held folder path paths tile r.loaded m n (n + bytes_in rest) first r.read ∙ tiles_count (Some tile ∷ r.loaded) (n + bytes_in rest) (m + bytes_in files) all;
      are = placed_so at T tiles (placed (at + length here) r.loaded) are.3 r.are;
      all = ap (λ (x : List File). here ++ x) r.all ∙ sym are.2;
    }

-- ---- the coverage

abbrev coverage_from : CoverageTables → List File → LoadedCoverage
coverage_from coverage files = record { coverage = coverage; files = files }

coverage_same : (x c : LoadedCoverage) (m n : ℕ) → x.coverage ≡ c.coverage → x.files ≡ c.files → m ≡ n → gives x m ≡ gives c n
coverage_same x c m n e f g = rw (sym e, sym f, g) refl

tileref_held : SpelledAreOpened → StopsDecide → (held : Files) (lib : List ℕ) (grid : Grid) (files : List File) → AreFilesOf (tileref_name lib) grid files → AreHeld held files
    → bytes_in files ≤ most_loaded → tileref_stop grid ≡ None → read_tileref held lib 0 ≡ (Ok (table_of_grid grid files), 0 + bytes_in files)
tileref_held laws decide held lib grid files are there few none =
    let e = held_is_loaded laws held (tileref_name lib) grid files 0 are there (omega (arith, few)) in
    rw (e, none) refl

untiled_held : SpelledAreOpened → (held : Files) (lib cov : List ℕ) (c : LoadedCoverage) → HoldsCoverage held lib cov c → AreUntiledFiles lib cov c.coverage c.files
    → read_coverage held lib cov 0 ≡ (Ok c, bytes_in c.files)
untiled_held laws held lib cov c h a =
    let X : TileTables = record { first = 0; tables = a.tables } in
    let absent : LacksOfTile held (within lib cov) (Some X) = subst (λ (x : CoverageTables). LacksOfTile held (within lib cov) (tile_at x 0)) a.is h.own in
    let tile = tile_held laws held (within lib cov) a.tables c.files 0 a.are h.there absent (let few = h.few in omega (arith, few)) in
    own_read held lib cov 0 (0 + bytes_in c.files) (tile_from a.tables c.files) tile
    ∙ coverage_same (untiled_loaded (tile_from a.tables c.files)) c (0 + bytes_in c.files) (bytes_in c.files) (sym a.is) refl (omega arith)

tiled_held : SpelledAreOpened → StopsDecide → (held : Files) (lib cov : List ℕ) (c : LoadedCoverage) → HoldsCoverage held lib cov c
    → AreTiledFiles lib cov c.coverage c.files → read_coverage held lib cov 0 ≡ (Ok c, bytes_in c.files)
tiled_held laws decide held lib cov c h a =
    let folder = within lib cov in
    let paths = path_texts a.tileref in
    let none : held (within folder (codes "edg")) ≡ None = subst (λ (x : CoverageTables). LacksOfTile held folder (tile_at x 0)) a.is h.own in
    let lacks : LacksOfTiles held folder paths a.tiles = subst (λ (x : CoverageTables). LacksOfTiles held folder x.paths (drop 1 x.tiles)) a.is h.tiles in
    let both = both_held held a.before a.behind (subst (λ (x : List File). AreHeld held x) a.are h.there) in
    let whole = ap bytes_in a.are in
    let sum = bytes_of_both a.before a.behind in
    let few = h.few in
    let n1 = 0 + bytes_in a.before in
    let n2 = n1 + bytes_in a.behind in
    let all : n2 ≡ bytes_in c.files = omega (arith, whole, sum) in
    let t = table_of_grid a.tileref a.before in
    let first = tileref_held laws decide held lib a.tileref a.before a.tileref_is both.0 (omega (arith, few, all)) ((decide a.tileref).1 (a.right, a.bounded)) in
    let r = tiles_held laws held folder (length a.before) paths a.tiles a.behind n1 a.tiles_are both.1 lacks (omega (arith, few, all)) in
    let some : has_some r.loaded ≡ true = sym (placed_some (length a.before) r.loaded) ∙ ap (λ (x : List (Option TileTables)). list_any is_some x) r.are ∙ a.some in
    let coverage : tiled_coverage paths (placed (length a.before) r.loaded) ≡ c.coverage = ap (tiled_coverage paths) r.are ∙ sym a.is in
    let files : a.before ++ tiles_files r.loaded ≡ c.files = ap (λ (x : List File). a.before ++ x) r.all ∙ sym a.are in
    none_own held lib cov 0 0 (none_held held folder 0 none) ∙ tiled_read held lib cov 0 n1 n2 t r.loaded first r.read some
    ∙ coverage_same (tiled_loaded t r.loaded) c n2 (bytes_in c.files) coverage files all

pub held_is_read : SpelledAreOpened → StopsDecide → HeldIsRead
held_is_read laws decide held lib cov c h = elim h.are [ inl a ↦ untiled_held laws held lib cov c h a | inr a ↦ tiled_held laws decide held lib cov c h a ]
