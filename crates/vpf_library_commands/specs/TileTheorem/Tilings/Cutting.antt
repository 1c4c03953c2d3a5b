-- What `tile` makes of an untiled coverage that agrees.
use Rattle.std.specs.Prelude.{◌≡◌, ℕ, List, [], ◌++◌, map, length, None, Some, Ok, Err, IsOk}
use Rattle.vpf_source.specs.Files.{Files}
use Rattle.vpf_source.specs.declared.file.File.{File}
use Rattle.vpf_prims.specs.Coverages.{tile_at}
use Rattle.vpf_prims.specs.Reading.{primitives_of}
use Rattle.vpf_prims.specs.Tables.{TileTables}
use Rattle.vpf_tiling.specs.Tileable.Planning.{plan_of}
use Rattle.vpf_library_files.specs.TableFiles.Adding.{NamedTable, files_made, first_limit_of}
use Rattle.vpf_library_commands.specs.CutBy.{names_of_faces, plan_refusal}
use Rattle.vpf_library_commands.specs.Tables.{library_tables}
use Rattle.vpf_library_commands.specs.declared.requesting.MakeRequest.{MakeRequest}
use Rattle.vpf_feature_files.specs.Schemas.{joins_of}
use Rattle.vpf_feature_writing.specs.Keys.{numbered_row}
use Rattle.vpf_feature_writing.specs.Making.{Made, features_made}
use Rattle.vpf_library_commands.specs.Made.{file_within}
use Rattle.vpf_library_commands.specs.Tile.{TileParts, parts_finding, read_parts}

-- the tile that the plan names for each face
abbrev pub cut_plan : TileParts → TileTables → ℕ → ℕ
cut_plan parts T = plan_of (names_of_faces T.tables parts.plan.grid)

-- the tables of the tiled library of what was read
abbrev pub cut_tables : MakeRequest → TileParts → TileTables → List NamedTable
cut_tables request parts T = library_tables request.cov T.tables (primitives_of T.tables) (cut_plan parts T) parts.tileref.grid

-- the files of its features, or the first that would pass a bound
abbrev pub cut_features : MakeRequest → TileParts → Made
cut_features request parts = features_made request.cov parts.schema

-- the files that are made; none where one would pass a bound
abbrev pub files_in_made : Made → List File
files_in_made (Ok files) = files
files_in_made (Err error) = []

-- the files of the tables, and behind them those of the features, in the folder that is asked for
abbrev pub cut_files : MakeRequest → TileParts → TileTables → List File
cut_files request parts T = map (file_within request.out) (files_made (cut_tables request parts T) ++ files_in_made (cut_features request parts))

-- What is read is an untiled coverage of these tables, its features, a table of tiles and a plan. Nothing is found in the coverage or its features,
-- nothing speaks against its plan, no features are joined by numbers, and no table and no file of features passes a bound.
pub record IsCutFrom (files : Files) (request : MakeRequest) (parts : TileParts) (T : TileTables) : Type 0 where
  pub read : (read_parts files request.lib request.cov 0).0 ≡ Ok parts
  pub tables : tile_at parts.coverage.coverage 0 ≡ Some T
  pub agrees : parts_finding request parts ≡ None
  pub serves : plan_refusal T.tables parts.plan.grid (length parts.tileref.grid.rows) ≡ None
  pub fits : first_limit_of (cut_tables request parts T) ≡ None
  pub joins : numbered_row (joins_of parts.schema.fcs) ≡ None
  pub features_fit : IsOk (cut_features request parts)
