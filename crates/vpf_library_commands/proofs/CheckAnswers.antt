-- The answer of `check` by what was loaded.
use Rattle.std.proofs.Common.{◌≡◌, ℕ, Option, None, List, refl, sym, ap, ◌∙◌}
use Rattle.std.specs.Prelude.{Result, Ok, Err}
use Rattle.vpf_source.specs.declared.file.File.{File}
use Rattle.vpf_prims.specs.Coverages.{CoverageTables}
use Rattle.vpf_library_files.specs.Loading.Loading.{Read}
use Rattle.vpf_library_files.specs.declared.loading.loading.LoadStop.{LoadStop}
use Rattle.vpf_library_files.specs.declared.loading.loading.LoadStop.TheVariants as stops
use Rattle.vpf_cross.specs.CrossFinding.{topology_finding}
use Rattle.vpf_replies.specs.declared.halting.Halt.{Halt}
use Rattle.vpf_replies.specs.declared.halting.Halt.TheVariants as halts
use Rattle.vpf_replies.specs.Answer.{Answer, done}
use Rattle.vpf_replies.specs.Halting.{ComesTo}
use Rattle.vpf_featured.specs.LoadReplies.Stopping.{IsStopAnswer, stop_answer}
use Rattle.vpf_library_files.specs.Loading.Loads.{ReadsStop}
use Rattle.vpf_features.specs.Finding.{Named}
use Rattle.vpf_featured.specs.Finding.{featured_finding, placed_finding, tables_or_features_finding}
use Rattle.vpf_featured.specs.Reading.{FeaturedCoverage}
use Rattle.vpf_library_commands.specs.declared.checking.CheckRequest.{CheckRequest}
use Rattle.vpf_library_commands.specs.Check.{agrees_text, found_answer, read_answer, read_finding}

-- ---- a coverage with its features

-- an answer to what was read, which is that to the stop where there is one
pub record IsReadStopped (Is : Result FeaturedCoverage LoadStop → Answer → Type 0) : Type 0 where
  pub at : (stop : LoadStop) (answer : Answer) → answer ≡ stop_answer stop → Is (Err stop) answer

seen_answer : (Is : Result FeaturedCoverage LoadStop → Answer → Type 0) → IsReadStopped Is → (read : Read FeaturedCoverage) (stop : LoadStop) (n : ℕ) (answer : Answer)
    → read ≡ (Err stop, n) → answer ≡ stop_answer stop → Is read.0 answer
seen_answer Is h read stop n answer e is = rw e (h.at stop answer is)

ends_so : (Is : Result FeaturedCoverage LoadStop → Answer → Type 0) → IsReadStopped Is → (read : Read FeaturedCoverage) (stop : LoadStop) (n : ℕ) (answer : Answer)
    → ReadsStop stop n read → IsStopAnswer stop answer → Is read.0 answer
ends_so Is h read stops.Fault n answer told is = absurd is
ends_so Is h read stops.NoMemory n answer told is = absurd is
ends_so Is h read (stops.Missing name) n answer told is = seen_answer Is h read (stops.Missing name) n answer told is
ends_so Is h read (stops.Place name place) n answer told is = seen_answer Is h read (stops.Place name place) n answer told is
ends_so Is h read (stops.Limit name limit) n answer told is = seen_answer Is h read (stops.Limit name limit) n answer told is
ends_so Is h read (stops.Finding name f) n answer told is = seen_answer Is h read (stops.Finding name f) n answer told is
ends_so Is h read (stops.Varies name) n answer told is = seen_answer Is h read (stops.Varies name) n answer told is

-- the reply to what stopped the load is the answer
pub read_stopped : (Is : Result FeaturedCoverage LoadStop → Answer → Type 0) → IsReadStopped Is → (read : Read FeaturedCoverage) (stop : LoadStop) (n : ℕ)
    (result : Result Answer Halt) → ReadsStop stop n read → ComesTo (IsStopAnswer stop) result → ComesTo (Is read.0) result
read_stopped Is h read stop n (Ok answer) told is = ends_so Is h read stop n answer told is
read_stopped Is h read stop n (Err (halts.Answered answer)) told is = ends_so Is h read stop n answer told is
read_stopped Is h read stop n (Err (halts.Stop cause)) told is = is

-- `check` answers a stop so
pub check_stopped : (request : CheckRequest) → IsReadStopped (λ read answer. answer ≡ read_answer request read)
check_stopped request = record { at = λ stop answer is. is }

-- the answer over what was read
pub check_read : (request : CheckRequest) (read : Read FeaturedCoverage) (v : FeaturedCoverage) (n : ℕ) (answer : Answer) → read ≡ (Ok v, n)
    → answer ≡ found_answer v.coverage.coverage (read_finding request v) → answer ≡ read_answer request read.0
check_read request read v n answer e is = rw e is

-- where nothing is found, the counts of the coverage are answered
pub agreed_so : (c d : CoverageTables) (first : Option Named) (answer : Answer) → first ≡ None → c ≡ d → answer ≡ done (agrees_text c) → answer ≡ found_answer d first
agreed_so c d first answer none same is = is ∙ (ap (λ (x : CoverageTables). done (agrees_text x)) same ∙ sym (ap (found_answer d) none))

-- where nothing is found in tables and features, what is found in the topology is found first
pub found_featured : (folder : List ℕ) (files : List File) (c : CoverageTables) (read : FeaturedCoverage) → tables_or_features_finding folder read ≡ None
    → c ≡ read.coverage.coverage → files ≡ read.coverage.files → placed_finding files (topology_finding c) ≡ featured_finding folder read
found_featured folder files c read none same listed =
    rw none (ap (λ (x : CoverageTables). placed_finding files (topology_finding x)) same
    ∙ ap (λ (fs : List File). placed_finding fs (topology_finding read.coverage.coverage)) listed)

-- what was read, with the count of bytes
pub both_of : {V : Type 0} (read : Read V) (v : V) → read.0 ≡ Ok v → read ≡ (Ok v, read.1)
both_of read v e = rw e refl
