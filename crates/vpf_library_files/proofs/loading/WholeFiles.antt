-- The rows of files that are a coverage are whole, and the names of their columns apart.
use Rattle.std.proofs.Common.{◌≡◌, inl, inr, ℕ, zero, suc, ◌+◌, ◌≤◌, List, [], ◌∷◌, length, Option, Some, None, Ok, refl, sym, ap}
use Rattle.std.specs.Prelude.{slice_index_or}
use Rattle.std.specs.List.{AllByRecursion}
use Rattle.std.proofs.lemmas.List.{append-nil}
use Rattle.vpf_base.specs.Limits.{most_rows}
use Rattle.vpf_source.specs.declared.file.File.{File}
use Rattle.vpf_base.specs.declared.orders.Order.{Order}
use Rattle.vpf_head.specs.Inner.Deciding.{BeginsHeader}
use Rattle.vpf_head.specs.Head.{Col, Head}
use Rattle.vpf_head.specs.Reading.{header_of}
use Rattle.vpf_head.specs.Inner.Soundness.{IsSound}
use Rattle.vpf_head.specs.Spelling.{IsHeader}
use Rattle.vpf_table.specs.Grid.{Grid, Row}
use Rattle.vpf_table.specs.Spans.{AreSpans, IsOpened}
use Rattle.vpf_table.specs.Spelling.{IsRow, IsRows}
use Rattle.vpf_prims.specs.Coverages.{CoverageTables, tile_at}
use Rattle.vpf_prims.specs.Inner.Laws.{AreFilled, IsFilled}
use Rattle.vpf_prims.specs.Reading.{PrimitiveTables}
use Rattle.vpf_prims.specs.Tables.{TileTables}
use Rattle.vpf_library_files.specs.Tileref.Stops.{path_texts}
use Rattle.vpf_library_files.specs.Loading.Loading.{within}
use Rattle.vpf_library_files.specs.Loading.Holding.{AreCoverageFiles, AreFilesOf, AreFilesOfOption, AreTileFiles, AreTilesFiles}
use Rattle.vpf_library_files.specs.Inner.Loading.Laws.{AreNamedApart, FilesAreWhole, IsNamedApart}

-- headers that are spelled are read
abbrev pub HeadIsRead : Type 0
HeadIsRead = (bytes : List ℕ) (h : Head) (text rest : List ℕ) → BeginsHeader bytes h text rest → header_of bytes ≡ Ok (h, length text)

-- headers that are read are sound
abbrev pub HeadIsSound : Type 0
HeadIsSound = (bytes : List ℕ) (h : Head) (start : ℕ) → header_of bytes ≡ Ok (h, start) → IsSound h

-- a row that is spelled has a cell for each column
row_filled : (o : Order) (columns : List Col) (row : Row) (b : List ℕ) → IsRow o columns row b → length row ≡ length columns
row_filled o [] [] b h = refl
row_filled o [] (cell ∷ row) b h = absurd h
row_filled o (column ∷ columns) [] b h = absurd h
row_filled o (column ∷ columns) (cell ∷ row) b h = ap suc (row_filled o columns row h.1 h.4)

rows_filled : (o : Order) (columns : List Col) (rows : List Row) (b : List ℕ) → IsRows o columns rows b → AllByRecursion (λ (row : Row). length row ≡ length columns) rows
rows_filled o columns [] b h = tt
rows_filled o columns (row ∷ rows) b h = (row_filled o columns row h.0 h.3, rows_filled o columns rows h.1 h.4)

spans_filled : (o : Order) (columns : List Col) (rows : List Row) (at : ℕ) (b : List ℕ) (spans : List (ℕ × ℕ)) → AreSpans o columns rows at b spans
    → AllByRecursion (λ (row : Row). length row ≡ length columns) rows
spans_filled o columns [] at b spans h = tt
spans_filled o columns (row ∷ rows) at b [] h = absurd h
spans_filled o columns (row ∷ rows) at b (span ∷ spans) h =
    (row_filled o columns row h.0 h.3, spans_filled o columns rows (at + length h.0) h.1 spans h.5)

header_apart : HeadIsRead → HeadIsSound → (h : Head) (front : List ℕ) → IsHeader h front → IsSound h
header_apart read sound h front is = sound front h (length front) (read front h front [] (record { parts = sym (append-nil front); spelled = is }))

opened_whole : HeadIsRead → HeadIsSound → (grid : Grid) (bytes : List ℕ) (index : Option (List ℕ)) → IsOpened grid bytes index → IsFilled grid × IsNamedApart grid
opened_whole read sound grid bytes None h =
    (rows_filled grid.head.order grid.head.columns grid.rows h.rest h.rows, (header_apart read sound grid.head h.front h.header).distinct)
opened_whole read sound grid bytes (Some index) h =
    (spans_filled grid.head.order grid.head.columns grid.rows (length h.lie.front) h.lie.rest h.spans h.lie.rows, (header_apart read sound grid.head h.lie.front h.lie.header).distinct)

table_whole : HeadIsRead → HeadIsSound → (name : List ℕ) (grid : Grid) (files : List File) → AreFilesOf name grid files → IsFilled grid × IsNamedApart grid
table_whole read sound name grid files (inl h) = opened_whole read sound grid h.bytes None h.opened
table_whole read sound name grid files (inr h) = opened_whole read sound grid h.bytes (Some h.index) h.opened

-- a table has few rows
opened_few : (grid : Grid) (bytes : List ℕ) (index : Option (List ℕ)) → IsOpened grid bytes index → length grid.rows ≤ most_rows
opened_few grid bytes None h = h.most
opened_few grid bytes (Some index) h = h.lie.most

table_few : (name : List ℕ) (grid : Grid) (files : List File) → AreFilesOf name grid files → length grid.rows ≤ most_rows
table_few name grid files (inl h) = opened_few grid h.bytes None h.opened
table_few name grid files (inr h) = opened_few grid h.bytes (Some h.index) h.opened

some_grid : (x grid : Grid) → Some x ≡ Some grid → x ≡ grid
some_grid x grid e = cc

no_grid : (grid : Grid) → None ≡ Some grid → ⊥
no_grid grid e = cc

last_whole : HeadIsRead → HeadIsSound → (name : List ℕ) (end : Option Grid) (files : List File) → AreFilesOfOption name end files
    → (grid : Grid) → end ≡ Some grid → IsFilled grid × IsNamedApart grid
last_whole read sound name None files h grid e = absurd (no_grid grid e)
last_whole read sound name (Some x) files h grid e = let w = table_whole read sound name x files h in rw (some_grid x grid e) at w

-- the tables of a folder
abbrev IsWhole : PrimitiveTables → Type 0
IsWhole t = AreFilled t × AreNamedApart t

tile_whole : HeadIsRead → HeadIsSound → (folder : List ℕ) (t : PrimitiveTables) (files : List File) → AreTileFiles folder t files → IsWhole t
tile_whole read sound folder t files h =
    let edg = table_whole read sound _ t.edg h.edg h.edg_is in
    let fac = table_whole read sound _ t.fac h.fac h.fac_is in
    let rng = table_whole read sound _ t.rng h.rng h.rng_is in
    let cnd = table_whole read sound _ t.cnd h.cnd h.cnd_is in
    let end = last_whole read sound _ t.end h.end h.end_is in (
      record { edg = edg.0; fac = fac.0; rng = rng.0; cnd = cnd.0; end = λ grid e. (end grid e).0 },
      record { edg = edg.1; fac = fac.1; rng = rng.1; cnd = cnd.1; end = λ grid e. (end grid e).1 },
    )

-- the files of a tile of a coverage
abbrev pub FilesOfTile : TileTables → Type 0
FilesOfTile T = (folder : List ℕ) × (files : List File) × AreTileFiles folder T.tables files

no_tile : (T : TileTables) → None ≡ Some T → ⊥
no_tile T e = cc

some_tile : (X T : TileTables) → Some X ≡ Some T → X ≡ T
some_tile X T e = cc

tile_so : (X T : TileTables) → X ≡ T → FilesOfTile X → FilesOfTile T
tile_so X T e h = rw e at h

tiles_have : (folder : List ℕ) (at : ℕ) (paths : List (List ℕ)) (tiles : List (Option TileTables)) (files : List File) → AreTilesFiles folder at paths tiles files
    → (i : ℕ) (T : TileTables) → slice_index_or tiles i None ≡ Some T → FilesOfTile T
tiles_have folder at [] [] files h i T e = absurd (no_tile T e)
tiles_have folder at [] (tile ∷ tiles) files h i T e = absurd h
tiles_have folder at (path ∷ paths) [] files h i T e = absurd h
tiles_have folder at (path ∷ paths) (None ∷ tiles) files h zero T e = absurd (no_tile T e)
tiles_have folder at (path ∷ paths) (None ∷ tiles) files h (suc i) T e = tiles_have folder at paths tiles files h i T e
tiles_have folder at (path ∷ paths) (Some X ∷ tiles) files h zero T e = tile_so X T (some_tile X T e) (within folder path, h.0, h.4)
tiles_have folder at (path ∷ paths) (Some X ∷ tiles) files h (suc i) T e = tiles_have folder (at + length h.0) paths tiles h.1 h.5 i T e

untiled_have : (X : TileTables) → FilesOfTile X → (t : ℕ) (T : TileTables) → slice_index_or (Some X ∷ []) t None ≡ Some T → FilesOfTile T
untiled_have X h zero T e = tile_so X T (some_tile X T e) h
untiled_have X h (suc t) T e = absurd (no_tile T e)

tiled_have : (folder : List ℕ) (at : ℕ) (paths : List (List ℕ)) (tiles : List (Option TileTables)) (files : List File) → AreTilesFiles folder at paths tiles files
    → (t : ℕ) (T : TileTables) → slice_index_or (None ∷ tiles) t None ≡ Some T → FilesOfTile T
tiled_have folder at paths tiles files h zero T e = absurd (no_tile T e)
tiled_have folder at paths tiles files h (suc t) T e = tiles_have folder at paths tiles files h t T e

pub files_have : (lib cov : List ℕ) (c : CoverageTables) (files : List File) → AreCoverageFiles lib cov c files → (t : ℕ) (T : TileTables) → tile_at c t ≡ Some T → FilesOfTile T
files_have lib cov c files (inl h) t T e = untiled_have (record { first = 0; tables = h.tables }) (within lib cov, files, h.are) t T (rw h.is at e)
files_have lib cov c files (inr h) t T e = tiled_have (within lib cov) (length h.before) (path_texts h.tileref) h.tiles h.behind h.tiles_are t T (rw h.is at e)

pub files_are_whole : HeadIsRead → HeadIsSound → FilesAreWhole
files_are_whole read sound lib cov c files are t T e =
    let h = files_have lib cov c files are t T e in
    tile_whole read sound h.0 T.tables h.1 h.2

pub tile_few : (T : TileTables) → FilesOfTile T → length T.tables.edg.rows ≤ most_rows
tile_few T h = table_few _ T.tables.edg h.2.edg h.2.edg_is
