-- How many tiles the files of a coverage are.
use Rattle.std.proofs.Common.{◌≡◌, ℕ, suc, ◌+◌, ◌<◌, ◌^◌, inl, inr, Option, Some, None, List, [], ◌∷◌, length, refl, sym, ap, subst, ◌∙◌, arith}
use Rattle.std.proofs.lemmas.List.{length-map}
use Rattle.vpf_source.specs.declared.file.File.{File}
use Rattle.vpf_table.specs.Grid.{Grid}
use Rattle.vpf_prims.specs.Coverages.{CoverageTables}
use Rattle.vpf_prims.specs.Tables.{TileTables}
use Rattle.vpf_library_files.specs.Tileref.Paths.{path_text}
use Rattle.vpf_library_files.specs.Tileref.Stops.{path_texts}
use Rattle.vpf_library_files.specs.Tileref.Tileref.{name_column, paths_of, row_path}
use Rattle.vpf_library_files.specs.Loading.Loading.{within}
use Rattle.vpf_library_files.specs.Loading.Holding.{AreCoverageFiles, AreTilesFiles}
use Rattle.vpf_library_files.specs.Inner.Loading.Laws.{FilesAreLibraries}
use Rattle.vpf_coverage.specs.Inner.Opened.{HasCountedTiles}

-- as many tiles as paths
tiles_by_paths : (folder : List ℕ) (at : ℕ) (paths : List (List ℕ)) (tiles : List (Option TileTables)) (files : List File) → AreTilesFiles folder at paths tiles files → length tiles ≡ length paths
tiles_by_paths folder at [] [] files h = refl
tiles_by_paths folder at [] (tile ∷ tiles) files h = absurd h
tiles_by_paths folder at (path ∷ paths) [] files h = absurd h
tiles_by_paths folder at (path ∷ paths) (None ∷ tiles) files h = ap suc (tiles_by_paths folder at paths tiles files h)
tiles_by_paths folder at (path ∷ paths) (Some T ∷ tiles) files h = ap suc (tiles_by_paths folder (at + length h.0) paths tiles h.1 h.5)

as_rows : (grid : Grid) → length (path_texts grid) ≡ length grid.rows
as_rows grid = length-map (paths_of grid) path_text ∙ length-map grid.rows (row_path (name_column grid.head.columns))

pub record HasFewTiles (c : CoverageTables) : Type 0 where
  pub tiles : length c.tiles ≡ length c.paths + 1
  pub few : length c.tiles < 2 ^ 31

few_tiles : (lib cov : List ℕ) (c : CoverageTables) (files : List File) → AreCoverageFiles lib cov c files → HasFewTiles c
few_tiles lib cov c files (inl u) = subst HasFewTiles (sym u.is) (record { tiles = refl; few = omega arith })
few_tiles lib cov c files (inr t) =
    let count = tiles_by_paths (within lib cov) (length t.before) (path_texts t.tileref) t.tiles t.behind t.tiles_are in
    let rows = as_rows t.tileref in
    let few = t.bounded.few in
    subst HasFewTiles (sym t.is) (record { tiles = omega (arith, count); few = omega (arith, count, rows, few) })

-- they are counted
pub is_counted : FilesAreLibraries → (lib cov : List ℕ) (c : CoverageTables) (files : List File) → AreCoverageFiles lib cov c files → HasCountedTiles c
is_counted law lib cov c files are =
    let few = few_tiles lib cov c files are in
    record { library = law lib cov c files are; tiles = few.tiles; few = few.few }
