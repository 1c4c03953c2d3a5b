-- What `tile` cuts: an untiled coverage with its features, the table of tiles of its library, and its plan, by the grammar of their files and the field's
-- words alone (MIL-STD-2407, 5.2.2, primitives, and 5.2.3, tiled coverages and feature classes).
use Rattle.std.specs.Prelude.{◌≡◌, ◌+◌, ◌≤◌, ℕ, List, length, None, IsOk}
use Rattle.vpf_source.specs.Files.{Files}
use Rattle.vpf_prims.specs.Coverages.{untiled_coverage}
use Rattle.vpf_prims.specs.Reading.{primitives_of}
use Rattle.vpf_prims.specs.Tables.{TileTables}
use Rattle.vpf_numbers.specs.Matching.{HaveColumns}
use Rattle.vpf_library_files.specs.Loading.Holding.{AreFilesOf, AreHeld, HoldsCoverage, bytes_in}
use Rattle.vpf_library_files.specs.Loading.Loading.{most_loaded, tileref_name, within}
use Rattle.vpf_library_files.specs.TableFiles.Adding.{first_limit_of}
use Rattle.vpf_library_files.specs.Tileref.Stops.{IsBounded}
use Rattle.vpf_library_files.specs.Tileref.Tileref.{IsTileref}
use Rattle.vpf_tiling.specs.Plan.PlanLoads.{ArePlanFiles}
use Rattle.vpf_tiling.specs.Plans.{IsTileable}
use Rattle.vpf_feature_files.specs.Holding.{HoldsSchema}
use Rattle.vpf_feature_files.specs.Schemas.{joins_of}
use Rattle.vpf_features.specs.FeatureAgreement.Agreeing.{FeaturesAgree}
use Rattle.vpf_feature_writing.specs.Keys.{numbered_row}
use Rattle.vpf_library_commands.specs.declared.requesting.MakeRequest.{MakeRequest}
use Rattle.vpf_library_commands.specs.Tile.{TileParts, plan_name}
use Rattle.vpf_library_commands.specs.TileTheorem.Tilings.Cutting.{cut_features, cut_plan, cut_tables}

-- a tree holds the files of a coverage and its features, of the table of tiles of its library and of its plan, which have no more bytes in all than a run
-- reads
pub record HoldsTileParts (files : Files) (lib cov : List ℕ) (parts : TileParts) : Type 0 where
  pub coverage : HoldsCoverage files lib cov parts.coverage
  pub schema : HoldsSchema files (within lib cov) parts.schema (bytes_in parts.coverage.files)
  pub tileref : AreFilesOf (tileref_name lib) parts.tileref.grid parts.tileref.files
  pub right : IsTileref parts.tileref.grid
  pub bounded : IsBounded parts.tileref.grid
  pub plan : ArePlanFiles (plan_name lib cov) parts.plan.grid parts.plan.files
  pub tileref_there : AreHeld files parts.tileref.files
  pub plan_there : AreHeld files parts.plan.files
  pub few : bytes_in parts.coverage.files + bytes_in schema.files + bytes_in parts.tileref.files + bytes_in parts.plan.files ≤ most_loaded

-- The coverage is untiled, has these tables with right columns, and may be tiled by its plan: it is well formed. Its features agree, and none are joined by
-- numbers; no table of its tiled library passes a bound, nor does a file of features.
pub record IsTileSource (files : Files) (request : MakeRequest) (parts : TileParts) (T : TileTables) : Type 0 where
  pub held : HoldsTileParts files request.lib request.cov parts
  pub untiled : parts.coverage.coverage ≡ untiled_coverage T
  pub columns : HaveColumns parts.coverage.coverage
  pub may_be : IsTileable (primitives_of T.tables) (cut_plan parts T) (length parts.tileref.grid.rows)
  pub features : FeaturesAgree parts.schema
  pub joins : numbered_row (joins_of parts.schema.fcs) ≡ None
  pub fits : first_limit_of (cut_tables request parts T) ≡ None
  pub features_fit : IsOk (cut_features request parts)

-- the tree holds such a source
abbrev pub HasTileSource : Files → MakeRequest → Type 0
HasTileSource files request = (parts : TileParts) × (T : TileTables) × IsTileSource files request parts T
