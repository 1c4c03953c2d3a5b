-- The answer of `trace` by what was loaded, and of which coverages it is done.
use Rattle.std.proofs.Common.{◌≡◌, ℕ, Option, Some, None, List, refl, sym, ap, ◌∙◌, subst}
use Rattle.std.specs.Prelude.{Result, Ok, Err}
use Rattle.vpf_darts.specs.declared.darts.TileDart.{TileDart}
use Rattle.vpf_darts.specs.Listings.{numbers_of}
use Rattle.vpf_findings.specs.Printing.{disagree_text}
use Rattle.vpf_cross.specs.Agreeing.{LibraryAgrees}
use Rattle.vpf_prims.specs.Coverages.{CoverageTables}
use Rattle.vpf_prims.specs.Libraries.{library_of}
use Rattle.vpf_library_files.specs.Loading.Loading.{Read}
use Rattle.vpf_library_files.specs.declared.loading.loading.LoadStop.{LoadStop}
use Rattle.vpf_trace.specs.Inner.Laws.{LibraryHasTrace, OneTrace}
use Rattle.vpf_trace.specs.Tracing.{IsTrace}
use Rattle.vpf_replies.specs.Answer.{Answer, done, refused}
use Rattle.vpf_replies.specs.Listings.{listing_text}
use Rattle.vpf_featured.specs.LoadReplies.Stopping.{stop_answer}
use Rattle.vpf_features.specs.Finding.{Named}
use Rattle.vpf_featured.specs.Reading.{FeaturedCoverage, read_featured}
use Rattle.vpf_library_commands.specs.declared.checking.CheckRequest.{CheckRequest}
use Rattle.vpf_library_commands.specs.Check.{found_answer, read_answer, read_finding}
use Rattle.vpf_library_commands.specs.Trace.{HasTraceAnswer, IsReadTrace, IsTracedAnswer, OneTraceAnswer, TraceDecides, TraceLists}
use Rattle.vpf_library_commands.proofs.CheckAnswers.{IsReadStopped, both_of}
use Rattle.vpf_library_commands.proofs.Deciding.{ReadLaws, agreeing_has_none, agreeing_is_read, agreeing_read, check_decides}
use Rattle.vpf_library_commands.specs.Inner.TraceLaws.{text_same, lists_are, darts_of}

-- ---- by what was loaded

-- what is answered over what was read is the answer
pub trace_read : (request : CheckRequest) (read : Read FeaturedCoverage) (v : FeaturedCoverage) (n : ℕ) (answer : Answer) → read ≡ (Ok v, n)
    → IsTracedAnswer v.coverage.coverage (read_finding request v) answer → IsReadTrace request read.0 answer
trace_read request read v n answer e is = rw e is

pub trace_stopped : (request : CheckRequest) → IsReadStopped (IsReadTrace request)
trace_stopped request = record { at = λ stop answer is. is }

-- the listing of a coverage in which nothing is found is the answer
pub listing_answers : (c : CoverageTables) (first : Option Named) (cycles : List (List TileDart)) (answer : Answer) → first ≡ None
    → IsTrace (library_of c) (numbers_of cycles) → answer ≡ done (listing_text cycles) → IsTracedAnswer c first answer
listing_answers c first cycles answer none lists is = rw none (cycles, lists, is)

-- ---- one answer

both_are : (a b c : Answer) → a ≡ c → b ≡ c → a ≡ b
both_are a b c e f = e ∙ sym f

traced_one : OneTrace → (c : CoverageTables) (first : Option Named) (a b : Answer) → IsTracedAnswer c first a → IsTracedAnswer c first b → a ≡ b
traced_one law c (Some (name, d)) a b e f = both_are a b _ e f
traced_one law c None a b e f =
    e.2 ∙ ap done (text_same e.0 f.0 (law (library_of c) (numbers_of e.0) (numbers_of f.0) e.1 f.1)) ∙ sym f.2

read_one : OneTrace → (request : CheckRequest) (read : Result FeaturedCoverage LoadStop) (a b : Answer) → IsReadTrace request read a → IsReadTrace request read b → a ≡ b
read_one law request (Ok v) a b e f = traced_one law v.coverage.coverage (read_finding request v) a b e f
read_one law request (Err stop) a b e f = both_are a b _ e f

pub one_answer : OneTrace → OneTraceAnswer
one_answer law files request a b e f = read_one law request (read_featured files request.lib request.cov 0).0 a b e f

-- ---- it is done where `check` is

found_verdict : (c : CoverageTables) (first : Option Named) (answer : Answer) → IsTracedAnswer c first answer → answer.verdict ≡ (found_answer c first).verdict
found_verdict c None answer h = ap (λ (a : Answer). a.verdict) h.2
found_verdict c (Some (name, d)) answer h = ap (λ (a : Answer). a.verdict) h

same_verdict : (request : CheckRequest) (read : Result FeaturedCoverage LoadStop) (answer : Answer) → IsReadTrace request read answer
    → answer.verdict ≡ (read_answer request read).verdict
same_verdict request (Ok v) answer h = found_verdict v.coverage.coverage (read_finding request v) answer h
same_verdict request (Err stop) answer h = ap (λ (a : Answer). a.verdict) h

pub trace_decides : ReadLaws → TraceDecides
trace_decides laws files request answer bytes is =
    let same = same_verdict request (read_featured files request.lib request.cov 0).0 answer is in
    let decides = check_decides laws files request bytes in
    (λ done. decides.0 (sym same ∙ done), λ agrees. same ∙ decides.1 agrees)

-- ---- there is one, and it lists the cycles

found_has : LibraryHasTrace → (c : CoverageTables) (first : Option Named) → (first ≡ None → LibraryAgrees (library_of c)) → (answer : Answer) × IsTracedAnswer c first answer
found_has law c (Some (name, d)) agrees = (refused (disagree_text name d), refl)
found_has law c None agrees =
    let trace : (lists : List (List ℕ)) × IsTrace (library_of c) lists = law (library_of c) (agrees refl) in
    let cycles : List (List TileDart) = darts_of trace.0 in
    (done (listing_text cycles), (cycles, subst (IsTrace (library_of c)) (sym (lists_are trace.0)) trace.1, refl))

read_has : LibraryHasTrace → (request : CheckRequest) (read : Result FeaturedCoverage LoadStop)
    → ((v : FeaturedCoverage) → read ≡ Ok v → read_finding request v ≡ None → LibraryAgrees (library_of v.coverage.coverage))
    → (answer : Answer) × IsReadTrace request read answer
read_has law request (Ok v) agrees = found_has law v.coverage.coverage (read_finding request v) (agrees v refl)
read_has law request (Err stop) agrees = (stop_answer stop, refl)

pub has_answer : LibraryHasTrace → ReadLaws → HasTraceAnswer
has_answer law laws files request bytes =
    let read = read_featured files request.lib request.cov 0 in
    read_has law request read.0 (λ v is none. (agreeing_read laws files request bytes v read.1 (both_of read v is) none).rows)

pub trace_lists : ReadLaws → TraceLists
trace_lists laws files request read cycles agrees lists =
    subst (λ (r : Read FeaturedCoverage). IsReadTrace request r.0 (done (listing_text cycles))) (sym (agreeing_is_read laws.held laws.schema files request read agrees))
    (listing_answers read.coverage.coverage (read_finding request read) cycles (done (listing_text cycles)) (agreeing_has_none laws files request read agrees) lists refl)
