-- The answer of `select` without thematic indexes, where the one that is asked for agrees.
use Rattle.std.proofs.Common.{◌≡◌, ◌∙◌, ℕ, List, [], ◌∷◌, Option, Some, None, map, refl, ap}
use Rattle.std.specs.Prelude.{Result, Ok, Err}
use Rattle.std.specs.Option.{option_or}
use Rattle.vpf_findings.specs.Findings.{Disagreement}
use Rattle.vpf_numbers.specs.TableLines.{coverage_numbers}
use Rattle.vpf_library_files.specs.Loading.Loading.{within}
use Rattle.vpf_library_files.specs.declared.loading.loading.LoadStop.{LoadStop}
use Rattle.vpf_feature_files.specs.Schemas.{FeatureTable, Schema}
use Rattle.vpf_features.specs.Finding.{Named, feature_table_finding, tables_finding}
use Rattle.vpf_feature_commands.specs.Classes.Serving.{AskedIndexServes, ServesAsScans, unindexed_schema, unindexed_table}
use Rattle.vpf_prims.specs.Coverages.{CoverageTables}
use Rattle.vpf_feature_commands.specs.declared.requesting.SelectRequest.{SelectRequest}
use Rattle.vpf_feature_commands.specs.Plain.{ServesWhatIsRead, plain_read}
use Rattle.vpf_featured.specs.Reading.{FeaturedCoverage}
use Rattle.vpf_feature_commands.specs.Select.{asked_answer, coverage_answer, featured_answer, schema_answer}

-- indexes aren't looked at for findings on feature tables
plain_findings : (folder : List ℕ) (tables : List FeatureTable) → tables_finding folder (map unindexed_table tables) ≡ tables_finding folder tables
plain_findings folder [] = refl
plain_findings folder (table ∷ tables) = ap (option_or (feature_table_finding folder table)) (plain_findings folder tables)

schemas_same : ServesAsScans → (folder : List ℕ) (request : SelectRequest) (c : CoverageTables) (S : Schema) (first : Option Named) → AskedIndexServes S request.class request.column
    → schema_answer folder request c (unindexed_schema S) first ≡ schema_answer folder request c S first
schemas_same law folder request c S None serve = ap (asked_answer folder request c.is_tiled) (rw (law c S request.class request.column request.value serve) refl)
schemas_same law folder request c S (Some found) serve = refl

coverages_same : ServesAsScans → (request : SelectRequest) (read : FeaturedCoverage) (first : Option Disagreement) → AskedIndexServes read.schema request.class request.column
    → coverage_answer request (record { coverage = read.coverage; schema = unindexed_schema read.schema }) first ≡ coverage_answer request read first
coverages_same law request read None serve =
    let folder = within request.lib request.cov in
    ap (schema_answer folder request read.coverage.coverage (unindexed_schema read.schema)) (plain_findings folder read.schema.tables)
    ∙ schemas_same law folder request read.coverage.coverage read.schema (tables_finding folder read.schema.tables) serve
coverages_same law request read (Some d) serve = refl

pub plain_same : ServesAsScans → (request : SelectRequest) (read : Result FeaturedCoverage LoadStop) → ServesWhatIsRead request read → featured_answer request (plain_read read) ≡ featured_answer request read
plain_same law request (Ok read) serve = coverages_same law request read (coverage_numbers read.coverage.coverage) serve
plain_same law request (Err stop) serve = refl
