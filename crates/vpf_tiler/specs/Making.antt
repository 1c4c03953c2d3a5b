-- What tiling a coverage comes to: its files and behind them those of its features, or the first cause why there are none (MIL-STD-2407, 5.2.3, tiled
-- coverages and feature classes).
use Rattle.std.specs.Prelude.{ℕ, List, length, Option, None, Some, Result, Ok, Err}
use Rattle.vpf_source.specs.declared.file.File.{File}
use Rattle.vpf_table.specs.Grid.{Grid}
use Rattle.vpf_prims.specs.Reading.{PrimitiveTables, primitives_of}
use Rattle.vpf_tiling.specs.declared.tileable.refusals.Refusal.{Refusal}
use Rattle.vpf_tiling.specs.Tileable.Planning.{plan_of}
use Rattle.vpf_library_files.specs.declared.table_files.errors.AddError.{AddError}
use Rattle.vpf_library_files.specs.declared.table_files.errors.AddError.TheVariants as adds
use Rattle.vpf_library_files.specs.TableFiles.Adding.{NamedTable, made_of_tables}
use Rattle.vpf_feature_files.specs.Schemas.{Schema, joins_of}
use Rattle.vpf_feature_writing.specs.Keys.{numbered_row}
use Rattle.vpf_feature_writing.specs.Making.{Made, features_made, made_then}
use Rattle.vpf_tiler.specs.declared.errors.TileError.{TileError}
use Rattle.vpf_tiler.specs.declared.errors.TileError.TheVariants as errors
use Rattle.vpf_tiler.specs.TileFiles.Tables.{library_tables}
use Rattle.vpf_tiler.specs.CutBy.{names_of_faces, plan_refusal}

-- what tiling answers; of want of memory nothing is seen
abbrev pub tile_error_seen : TileError → Option TileError
tile_error_seen errors.NoMemory = None
tile_error_seen error = Some error

-- why a coverage isn't tiled, by why its files aren't written: the limit that one would pass, or want of memory
abbrev pub tile_error : AddError → TileError
tile_error (adds.Limit name limit) = errors.Limit name limit
tile_error adds.NoMemory = errors.NoMemory

-- files that are made, or the limit that one would pass, as tiling answers them
abbrev pub made_result : Made → Result (List File) TileError
made_result (Ok files) = Ok files
made_result (Err error) = Err (tile_error error)

-- the same, unless a row of the schema table joins features to primitives by these' numbers
abbrev pub unless_keyed : Option ℕ → Result (List File) TileError → Result (List File) TileError
unless_keyed None made = made
unless_keyed (Some row) made = Err (errors.KeyInTable row)

-- the same, unless there is a cause against tiling
abbrev pub unless_refused : Option Refusal → Result (List File) TileError → Result (List File) TileError
unless_refused None made = made
unless_refused (Some refusal) made = Err (errors.Refused refusal)

-- the tables of the tiled library of an untiled coverage of this name, by the plan and the table of tiles that are given
abbrev pub planned_tables : (cov : List ℕ) → PrimitiveTables → (plan tileref : Grid) → List NamedTable
planned_tables cov tables plan tileref = library_tables cov tables (primitives_of tables) (plan_of (names_of_faces tables plan)) tileref

-- what tiling comes to of these tables alone
abbrev pub tiled : (cov : List ℕ) → PrimitiveTables → (plan tileref : Grid) → Result (List File) TileError
tiled cov tables plan tileref =
    unless_refused (plan_refusal tables plan (length tileref.rows)) (made_result (made_of_tables (planned_tables cov tables plan tileref)))

-- what it comes to of the tables, and behind them the features of a schema: the first cause against the plan, then that features are joined by numbers, and
-- then the first limit that a file would pass
abbrev pub tiled_with_features : (cov : List ℕ) → PrimitiveTables → Schema → (plan tileref : Grid) → Result (List File) TileError
tiled_with_features cov tables S plan tileref =
    unless_refused (plan_refusal tables plan (length tileref.rows)) (unless_keyed (numbered_row (joins_of S.fcs))
    (made_result (made_then (made_of_tables (planned_tables cov tables plan tileref)) (features_made cov S))))
