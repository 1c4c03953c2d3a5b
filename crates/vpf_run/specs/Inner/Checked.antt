-- What `check` and `trace` say of a coverage, by the grammar of its files and the field's words alone.
use Rattle.std.specs.Prelude.{◌≡◌, List}
use Rattle.vpf_source.specs.Files.{Files, HoldsBytes}
use Rattle.vpf_darts.specs.declared.darts.TileDart.{TileDart}
use Rattle.vpf_darts.specs.Listings.{numbers_of}
use Rattle.vpf_prims.specs.Libraries.{library_of}
use Rattle.vpf_feature_commands.specs.Reading.{FeaturedCoverage}
use Rattle.vpf_replies.specs.declared.verdict.Verdict.TheVariants.{Done}
use Rattle.vpf_replies.specs.Answer.{Answer, done}
use Rattle.vpf_replies.specs.Listings.{listing_text}
use Rattle.vpf_library_commands.specs.TraceTracing.{IsTrace}
use Rattle.vpf_library_commands.specs.declared.checking.CheckRequest.{CheckRequest}
use Rattle.vpf_library_commands.specs.Agreeing.{Agrees, IsAgreeing}
use Rattle.vpf_library_commands.specs.Check.{agrees_text}
use Rattle.vpf_run.specs.declared.command.Command.TheVariants.{Check, Trace}
use Rattle.vpf_run.specs.Commands.{IsAnswerTo}

-- where the coverage agrees, the numbers of primitives of its tiles are the answer
abbrev pub AgreementIsSaid : Type 0
AgreementIsSaid = (files : Files) (request : CheckRequest) (read : FeaturedCoverage) → IsAgreeing files request read
    → IsAnswerTo (Check request) files (done (agrees_text read.coverage.coverage))

-- where the answer over files of bytes is that `check` is done, the coverage agrees
abbrev pub OnlyAgreementIsDone : Type 0
OnlyAgreementIsDone = (files : Files) (request : CheckRequest) (answer : Answer) → HoldsBytes files → IsAnswerTo (Check request) files answer → answer.verdict ≡ Done → Agrees files request

-- where the coverage agrees, the listing of its boundary cycles past its lines between tiles is the answer of `trace`
abbrev pub CyclesAreSaid : Type 0
CyclesAreSaid = (files : Files) (request : CheckRequest) (read : FeaturedCoverage) (cycles : List (List TileDart)) → IsAgreeing files request read
    → IsTrace (library_of read.coverage.coverage) (numbers_of cycles) → IsAnswerTo (Trace request) files (done (listing_text cycles))

-- where the answer over files of bytes is that `trace` is done, the coverage agrees
abbrev pub OnlyAgreementIsTraced : Type 0
OnlyAgreementIsTraced = (files : Files) (request : CheckRequest) (answer : Answer) → HoldsBytes files → IsAnswerTo (Trace request) files answer → answer.verdict ≡ Done → Agrees files request
