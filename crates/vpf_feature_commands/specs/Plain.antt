-- `select` where no thematic index is there: every value is found by a plain scan.
use Rattle.std.specs.Prelude.{◌≡◌, Result, Ok, Err}
use Rattle.vpf_source.specs.Files.{Files}
use Rattle.vpf_library_files.specs.declared.loading.loading.LoadStop.{LoadStop}
use Rattle.vpf_feature_commands.specs.Classes.Serving.{AskedIndexServes, unindexed_schema}
use Rattle.vpf_replies.specs.Answer.{Answer}
use Rattle.vpf_feature_commands.specs.declared.requesting.SelectRequest.{SelectRequest}
use Rattle.vpf_featured.specs.Reading.{FeaturedCoverage, read_featured}
use Rattle.vpf_feature_commands.specs.Select.{featured_answer, select_answer}

-- what was read, without thematic indexes
abbrev pub plain_read : Result FeaturedCoverage LoadStop → Result FeaturedCoverage LoadStop
plain_read (Ok read) = Ok (record { coverage = read.coverage; schema = unindexed_schema read.schema })
plain_read (Err stop) = Err stop

-- the answer over what was read, where no index is there
abbrev pub plain_select_answer : Files → SelectRequest → Answer
plain_select_answer files request = featured_answer request (plain_read (read_featured files request.lib request.cov 0).0)

-- the thematic index of what was read that a request asks for agrees with its column
abbrev pub ServesWhatIsRead : SelectRequest → Result FeaturedCoverage LoadStop → Type 0
ServesWhatIsRead request (Ok read) = AskedIndexServes read.schema request.class request.column
ServesWhatIsRead request (Err stop) = Unit {0}

-- .. that of the features that are selected from
abbrev pub FeatureIndexAgrees : Files → SelectRequest → Type 0
FeatureIndexAgrees files request = ServesWhatIsRead request (read_featured files request.lib request.cov 0).0

-- where that index agrees, the answer is that by plain scans
abbrev pub PlainSelections : Type 0
PlainSelections = (files : Files) (request : SelectRequest) → FeatureIndexAgrees files request
    → plain_select_answer files request ≡ select_answer files request
