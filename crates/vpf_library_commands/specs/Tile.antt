-- `tile`: the files of the tiled library of an untiled coverage.
use Rattle.std.specs.Prelude.{ℕ, List, [], codes, Option, Some, None, Result, Ok, Err}
use Rattle.std.specs.Fmt.{decimal, signed_decimal}
use Rattle.vpf_source.specs.Files.{Files}
use Rattle.vpf_source.specs.declared.file.File.{File}
use Rattle.vpf_findings.specs.Printing.{disagree_text}
use Rattle.vpf_table.specs.Grid.{Grid}
use Rattle.vpf_findings.specs.Text.Texts.{◌&◌}
use Rattle.vpf_prims.specs.Coverages.{tile_at}
use Rattle.vpf_prims.specs.Tables.{TileTables}
use Rattle.vpf_library_files.specs.Loading.Loading.{LoadedCoverage, LoadedTable, Read, ◌and_then◌, read_tileref, within}
use Rattle.vpf_library_files.specs.declared.loading.loading.LoadStop.{LoadStop}
use Rattle.vpf_tiling.specs.Plan.PlanLoads.{read_plan}
use Rattle.vpf_tiling.specs.Plan.Untiled.{read_untiled}
use Rattle.vpf_tiling.specs.declared.tileable.refusals.Refusal.{Refusal}
use Rattle.vpf_tiling.specs.declared.tileable.refusals.Refusal.TheVariants as refusals
use Rattle.vpf_library_files.specs.declared.table_files.errors.AddError.TheVariants as adds
use Rattle.vpf_feature_files.specs.Reading.{read_schema}
use Rattle.vpf_feature_files.specs.Schemas.{Schema, joins_of}
use Rattle.vpf_features.specs.Finding.{Named}
use Rattle.vpf_featured.specs.Finding.{featured_finding}
use Rattle.vpf_featured.specs.Reading.{FeaturedCoverage}
use Rattle.vpf_tiler.specs.declared.errors.TileError.{TileError}
use Rattle.vpf_tiler.specs.declared.errors.TileError.TheVariants as errors
use Rattle.vpf_tiler.specs.Making.{tiled_with_features}
use Rattle.vpf_replies.specs.Answer.{Answer, refused}
use Rattle.vpf_featured.specs.LoadReplies.Stopping.{stop_answer}
use Rattle.vpf_library_commands.specs.declared.requesting.MakeRequest.{MakeRequest}
use Rattle.vpf_library_commands.specs.Keys.{class_in_row, keyed_text}
use Rattle.vpf_library_commands.specs.Made.{files_answer}

-- what is read: an untiled coverage, its features, the table of tiles of its library, and its plan
pub record TileParts : Type 0 where
  pub coverage : LoadedCoverage
  pub schema : Schema
  pub tileref : LoadedTable
  pub plan : LoadedTable

-- the coverage with its features
abbrev pub featured_in : TileParts → FeaturedCoverage
featured_in parts = record { coverage = parts.coverage; schema = parts.schema }

-- the name of the plan of a coverage
abbrev pub plan_name : (lib cov : List ℕ) → List ℕ
plan_name lib cov = within (within lib cov) (codes "plan")

-- an untiled coverage and its features, in reading order
abbrev pub read_untiled_featured : Files → (lib cov : List ℕ) → ℕ → Read FeaturedCoverage
read_untiled_featured files lib cov loaded =
    read_untiled files lib cov loaded and_then λ coverage n.
    read_schema files (within lib cov) n and_then λ schema n.
    (Ok (record { coverage = coverage; schema = schema }), n)

-- the parts of a coverage with its features, a table of tiles and a plan
abbrev pub tile_parts : FeaturedCoverage → (tileref plan : LoadedTable) → TileParts
tile_parts read tileref plan = record { coverage = read.coverage; schema = read.schema; tileref = tileref; plan = plan }

-- all files, in reading order
abbrev pub read_parts : Files → (lib cov : List ℕ) → ℕ → Read TileParts
read_parts files lib cov loaded =
    read_untiled_featured files lib cov loaded and_then λ read n.
    read_tileref files lib n and_then λ tileref n.
    read_plan files (plan_name lib cov) n and_then λ plan n.
    (Ok (tile_parts read tileref plan), n)

-- why a coverage isn't tiled, as it is printed
abbrev pub refusal_reason : Refusal → List ℕ
refusal_reason (refusals.NoPlan f) = codes "no-plan face " & decimal f
refusal_reason (refusals.UnknownTile f z) = codes "unknown-tile face " & decimal f & codes ": " & signed_decimal z
refusal_reason (refusals.EdgeOutside e) = codes "edge-outside edge " & decimal e
refusal_reason (refusals.EntityOutside n) = codes "entity-outside node " & decimal n

-- the line of it
abbrev pub untiled_text : Refusal → List ℕ
untiled_text refusal = codes "refused " & refusal_reason refusal & codes "\n"

-- the answer to what tiling with the features of a schema comes to
abbrev pub tiled_answer : MakeRequest → Schema → Result (List File) TileError → Answer
tiled_answer request S (Ok files) = files_answer request.out (Ok files)
tiled_answer request S (Err (errors.Refused refusal)) = refused (untiled_text refusal)
tiled_answer request S (Err (errors.KeyInTable row)) = refused (keyed_text (class_in_row (joins_of S.fcs) row))
tiled_answer request S (Err (errors.Limit name limit)) = files_answer request.out (Err (adds.Limit name limit))
tiled_answer request S (Err errors.NoMemory) = refused []

-- the answer over the tables of a coverage that agrees
abbrev pub tables_answer : MakeRequest → Schema → Option TileTables → (plan tileref : Grid) → Answer
tables_answer request S None plan tileref = refused []
tables_answer request S (Some T) plan tileref = tiled_answer request S (tiled_with_features request.cov T.tables S plan tileref)

-- the answer over what was read, by the first finding on the coverage and its features
abbrev pub tiling_answer : MakeRequest → TileParts → Option Named → Answer
tiling_answer request parts None = tables_answer request parts.schema (tile_at parts.coverage.coverage 0) parts.plan.grid parts.tileref.grid
tiling_answer request parts (Some (name, d)) = refused (disagree_text name d)

-- the first finding on what was read
abbrev pub parts_finding : MakeRequest → TileParts → Option Named
parts_finding request parts = featured_finding (within request.lib request.cov) (featured_in parts)

-- the answer to what was read
abbrev pub parts_answer : MakeRequest → Result TileParts LoadStop → Answer
parts_answer request (Ok parts) = tiling_answer request parts (parts_finding request parts)
parts_answer request (Err stop) = stop_answer stop

-- the answer over the files of a tree
abbrev pub tile_answer : Files → MakeRequest → Answer
tile_answer files request = parts_answer request (read_parts files request.lib request.cov 0).0
