-- `select`: the features of a class that have a value in a column, with the primitives that are joined to each (MIL-STD-2407, 5.2.3, feature classes).
use Rattle.std.specs.Prelude.{◌≡◌, ℕ, Bool, List, [], ◌∷◌, Option, Some, None, Result, Ok, Err}
use Rattle.vpf_source.specs.Files.{Files}
use Rattle.vpf_source.specs.Names.Naming.{coverage_name, file_name}
use Rattle.vpf_findings.specs.Findings.{Disagreement}
use Rattle.vpf_findings.specs.Printing.{disagree_text}
use Rattle.vpf_prims.specs.Coverages.{CoverageTables}
use Rattle.vpf_numbers.specs.TableLines.{coverage_numbers}
use Rattle.vpf_library_files.specs.Loading.Loading.{within}
use Rattle.vpf_library_files.specs.declared.loading.loading.LoadStop.{LoadStop}
use Rattle.vpf_feature_files.specs.Schemas.{Schema}
use Rattle.vpf_features.specs.Finding.{Named, tables_finding}
use Rattle.vpf_featured.specs.Reading.{FeaturedCoverage, read_featured}
use Rattle.vpf_joins.specs.Features.{FeatureJoined}
use Rattle.vpf_feature_commands.specs.Classes.Asking.{features_asked}
use Rattle.vpf_feature_commands.specs.Classes.Lacks.{Lack, ClassLacks, TableLacks, ColumnLacks, IndexUnfit, ValueLacks, IndexWrong}
use Rattle.vpf_replies.specs.Answer.{Answer, done, refused}
use Rattle.vpf_replies.specs.Refusals.{AbsentClass, AbsentColumn, AbsentTable, OtherValue, refusal_answer}
use Rattle.vpf_replies.specs.Selecting.{wrong_row_text}
use Rattle.vpf_featured.specs.LoadReplies.Places.{place_name}
use Rattle.vpf_featured.specs.LoadReplies.Stopping.{stop_answer}
use Rattle.vpf_feature_commands.specs.declared.requesting.SelectRequest.{SelectRequest}
use Rattle.vpf_feature_commands.specs.Lines.{features_text}

-- ---- the request

-- the request of a library, a coverage, and the words for a class, a column and a value
abbrev pub select_request_of : Option (List ℕ) → Option (List ℕ) → (class column value : List ℕ) → Option SelectRequest
select_request_of None cov class column value = None
select_request_of (Some lib) None class column value = None
select_request_of (Some lib) (Some cov) class column value = Some (record { lib = lib; cov = cov; class = class; column = column; value = value })

-- the request that the words after the verb spell
abbrev pub select_request : List (List ℕ) → Option SelectRequest
select_request (lib ∷ cov ∷ class ∷ column ∷ value ∷ []) = select_request_of (file_name lib) (coverage_name cov) class column value
select_request words = None

-- ---- the answer; the folder is that of the coverage

-- the answer to what lacks: files are told by their names in the folder
abbrev pub lack_answer : (folder : List ℕ) → SelectRequest → Lack → Answer
lack_answer folder request ClassLacks = refusal_answer (AbsentClass request.class)
lack_answer folder request TableLacks = refusal_answer (AbsentTable request.class)
lack_answer folder request (ColumnLacks name) = refusal_answer (AbsentColumn name)
lack_answer folder request (IndexUnfit file d) = refused (disagree_text (within folder file) d)
lack_answer folder request ValueLacks = refusal_answer (OtherValue request.column)
lack_answer folder request (IndexWrong file kind row cell value) = refused (wrong_row_text (within folder file) kind row cell value)

-- this is the answer to what lacks; nothing is the answer to want of memory
abbrev pub IsLackAnswer : (folder : List ℕ) → SelectRequest → Option Lack → Answer → Type 0
IsLackAnswer folder request None answer = ⊥
IsLackAnswer folder request (Some lack) answer = answer ≡ lack_answer folder request lack

-- the answer to features that were asked for, by whether the coverage is in tiles
abbrev pub asked_answer : (folder : List ℕ) → SelectRequest → (tiled : Bool) → Result (List FeatureJoined) Lack → Answer
asked_answer folder request tiled (Ok features) = done (features_text tiled features)
asked_answer folder request tiled (Err lack) = lack_answer folder request lack

-- the answer over a coverage and its features, in which nothing disagrees
abbrev pub class_answer : (folder : List ℕ) → SelectRequest → CoverageTables → Schema → Answer
class_answer folder request c S = asked_answer folder request c.is_tiled (features_asked c S request.class request.column request.value)

-- .. by the first finding on the feature tables
abbrev pub schema_answer : (folder : List ℕ) → SelectRequest → CoverageTables → Schema → Option Named → Answer
schema_answer folder request c S None = class_answer folder request c S
schema_answer folder request c S (Some (name, d)) = refused (disagree_text name d)

-- .. by the first finding on the tables of the coverage, which goes before
abbrev pub coverage_answer : SelectRequest → FeaturedCoverage → Option Disagreement → Answer
coverage_answer request read None =
    schema_answer (within request.lib request.cov) request read.coverage.coverage read.schema
    (tables_finding (within request.lib request.cov) read.schema.tables)
coverage_answer request read (Some d) = refused (disagree_text (place_name read.coverage.files d.file) d)

-- the answer to what was read
abbrev pub featured_answer : SelectRequest → Result FeaturedCoverage LoadStop → Answer
featured_answer request (Ok read) = coverage_answer request read (coverage_numbers read.coverage.coverage)
featured_answer request (Err stop) = stop_answer stop

-- the answer over the files of a tree
abbrev pub select_answer : Files → SelectRequest → Answer
select_answer files request = featured_answer request (read_featured files request.lib request.cov 0).0
