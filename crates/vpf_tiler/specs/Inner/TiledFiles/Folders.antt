-- A folder of files, and what is made in it.
use Rattle.std.specs.Prelude.{◌≡◌, ◌≢◌, ◌≤◌, ℕ, List, None, Some}
use Rattle.std.specs.List.{AllByRecursion}
use Rattle.vpf_source.specs.Files.{Files}
use Rattle.vpf_source.specs.declared.file.File.{File}
use Rattle.vpf_table.specs.Canonical.{IsWritable}
use Rattle.vpf_table.specs.Grid.{Grid}
use Rattle.vpf_prims.specs.Reading.{PrimitiveTables, primitives_of}
use Rattle.vpf_library_files.specs.Tileref.Stops.{IsBounded, path_texts}
use Rattle.vpf_library_files.specs.Tileref.Tileref.{IsTileref}
use Rattle.vpf_library_files.specs.Loading.Holding.{bytes_in}
use Rattle.vpf_library_files.specs.Loading.Loading.{most_loaded, within}
use Rattle.vpf_primitive_tables.specs.TileTables.Grids.{tiles_made}
use Rattle.vpf_library_files.specs.TableFiles.Adding.{NamedTable, files_made, first_limit_of}
use Rattle.vpf_tiler.specs.TileFiles.Tables.{library_tables}

-- a folder of a tree holds exactly these files: each under its name, and none under any other
pub record HoldsExactly (held : Files) (folder : List ℕ) (files : List File) : Type 0 where
  pub there : AllByRecursion (λ file. held (within folder file.name) ≡ Some file.bytes) files
  pub others : (name : List ℕ) → AllByRecursion (λ file. file.name ≢ name) files → held (within folder name) ≡ None

-- the tables of the tiled library of a coverage of this name, cut by a plan, can be written and read again: the table of tiles is one, each table
-- fits its columns, and none passes a limit, nor do their files in all
pub record CanBeMade (cov : List ℕ) (T : PrimitiveTables) (plan : ℕ → ℕ) (tileref : Grid) : Type 0 where
  pub right : IsTileref (tiles_made tileref)
  pub paths : path_texts (tiles_made tileref) ≡ path_texts tileref
  pub bounded : IsBounded tileref
  pub writable : AllByRecursion (λ (table : NamedTable). IsWritable table.grid) (library_tables cov T (primitives_of T) plan tileref)
  pub fits : first_limit_of (library_tables cov T (primitives_of T) plan tileref) ≡ None
  pub few : bytes_in (files_made (library_tables cov T (primitives_of T) plan tileref)) ≤ most_loaded
