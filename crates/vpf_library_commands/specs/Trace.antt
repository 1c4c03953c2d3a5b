-- `trace`: the boundary cycles of a coverage, past its lines between tiles.
use Rattle.std.specs.Prelude.{◌≡◌, ◌↔◌, List, Option, None, Some, Result, Ok, Err}
use Rattle.vpf_source.specs.Files.{Files, HoldsBytes}
use Rattle.vpf_darts.specs.declared.darts.TileDart.{TileDart}
use Rattle.vpf_darts.specs.Listings.{numbers_of}
use Rattle.vpf_findings.specs.Printing.{disagree_text}
use Rattle.vpf_prims.specs.Coverages.{CoverageTables}
use Rattle.vpf_prims.specs.Libraries.{library_of}
use Rattle.vpf_library_files.specs.declared.loading.loading.LoadStop.{LoadStop}
use Rattle.vpf_trace.specs.Tracing.{IsTrace}
use Rattle.vpf_replies.specs.declared.verdict.Verdict.TheVariants.{Done}
use Rattle.vpf_replies.specs.Answer.{Answer, done, refused}
use Rattle.vpf_replies.specs.Listings.{listing_text}
use Rattle.vpf_featured.specs.LoadReplies.Stopping.{stop_answer}
use Rattle.vpf_features.specs.Finding.{Named}
use Rattle.vpf_featured.specs.Reading.{FeaturedCoverage, read_featured}
use Rattle.vpf_library_commands.specs.declared.checking.CheckRequest.{CheckRequest}
use Rattle.vpf_library_commands.specs.Agreeing.{Agrees, IsAgreeing}
use Rattle.vpf_library_commands.specs.Check.{read_finding}

-- the answer over a coverage by the first finding on it and its features: that, or else the listing of its boundary cycles past its lines
abbrev pub IsTracedAnswer : CoverageTables → Option Named → Answer → Type 0
IsTracedAnswer c None answer = (cycles : List (List TileDart)) × IsTrace (library_of c) (numbers_of cycles) × (answer ≡ done (listing_text cycles))
IsTracedAnswer c (Some (name, d)) answer = answer ≡ refused (disagree_text name d)

-- the answer to what was read
abbrev pub IsReadTrace : CheckRequest → Result FeaturedCoverage LoadStop → Answer → Type 0
IsReadTrace request (Ok read) answer = IsTracedAnswer read.coverage.coverage (read_finding request read) answer
IsReadTrace request (Err stop) answer = answer ≡ stop_answer stop

-- the answer over the files of a tree
abbrev pub IsTraceAnswer : Files → CheckRequest → Answer → Type 0
IsTraceAnswer files request answer = IsReadTrace request (read_featured files request.lib request.cov 0).0 answer

-- each request has an answer over files of bytes
abbrev pub HasTraceAnswer : Type 0
HasTraceAnswer = (files : Files) (request : CheckRequest) → HoldsBytes files → (answer : Answer) × IsTraceAnswer files request answer

-- .. and only one
abbrev pub OneTraceAnswer : Type 0
OneTraceAnswer = (files : Files) (request : CheckRequest) (a b : Answer) → IsTraceAnswer files request a → IsTraceAnswer files request b → a ≡ b

-- over files of bytes `trace` is done exactly where the coverage agrees
abbrev pub TraceDecides : Type 0
TraceDecides = (files : Files) (request : CheckRequest) (answer : Answer) → HoldsBytes files → IsTraceAnswer files request answer → (answer.verdict ≡ Done) ↔ Agrees files request

-- and then it lists the boundary cycles of the coverage past its lines
abbrev pub TraceLists : Type 0
TraceLists = (files : Files) (request : CheckRequest) (read : FeaturedCoverage) (cycles : List (List TileDart)) → IsAgreeing files request read
    → IsTrace (library_of read.coverage.coverage) (numbers_of cycles) → IsTraceAnswer files request (done (listing_text cycles))
