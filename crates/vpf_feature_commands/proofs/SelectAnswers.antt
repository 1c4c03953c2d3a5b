-- The answer of `select` by what was read.
use Rattle.std.proofs.Common.{[], ◌≡◌, ℕ, ◌<◌, ◌≤◌, List, ◌∷◌, length, Option, None, map, refl, arith}
use Rattle.std.specs.Prelude.{Result, Ok, Err}
use Rattle.vpf_findings.specs.Findings.{Disagreement}
use Rattle.vpf_library_files.specs.Loading.Loading.{Read, within}
use Rattle.vpf_library_files.specs.Loading.Loads.{ReadsStop}
use Rattle.vpf_library_files.specs.declared.loading.loading.LoadStop.{LoadStop}
use Rattle.vpf_library_files.specs.declared.loading.loading.LoadStop.TheVariants as stops
use Rattle.vpf_numbers.specs.TableLines.{coverage_numbers}
use Rattle.vpf_features.specs.Finding.{tables_finding}
use Rattle.vpf_replies.specs.declared.halting.Halt.{Halt}
use Rattle.vpf_replies.specs.declared.halting.Halt.TheVariants as halts
use Rattle.vpf_replies.specs.Answer.{Answer}
use Rattle.vpf_replies.specs.Halting.{ComesTo}
use Rattle.vpf_featured.specs.LoadReplies.Stopping.{IsStopAnswer, stop_answer}
use Rattle.vpf_feature_commands.specs.declared.requesting.SelectRequest.{SelectRequest}
use Rattle.vpf_featured.specs.Reading.{FeaturedCoverage}
use Rattle.vpf_feature_commands.specs.Select.{coverage_answer, featured_answer, schema_answer, select_request}

-- ---- the request

-- fewer words than five spell none
pub few_words : {W : Type 0} (f : W → List ℕ) (words : List W) → length words < 5 → None ≡ select_request (map f words)
few_words f [] h = refl
few_words f (a ∷ []) h = refl
few_words f (a ∷ b ∷ []) h = refl
few_words f (a ∷ b ∷ c ∷ []) h = refl
few_words f (a ∷ b ∷ c ∷ d ∷ []) h = refl
few_words f (a ∷ b ∷ c ∷ d ∷ e ∷ words) h = absurd (omega arith)

-- .. and so do more
pub many_words : {W : Type 0} (f : W → List ℕ) (words : List W) → 6 ≤ length words → None ≡ select_request (map f words)
many_words f [] h = absurd (omega arith)
many_words f (a ∷ []) h = absurd (omega arith)
many_words f (a ∷ b ∷ []) h = absurd (omega arith)
many_words f (a ∷ b ∷ c ∷ []) h = absurd (omega arith)
many_words f (a ∷ b ∷ c ∷ d ∷ []) h = absurd (omega arith)
many_words f (a ∷ b ∷ c ∷ d ∷ e ∷ []) h = absurd (omega arith)
many_words f (a ∷ b ∷ c ∷ d ∷ e ∷ i ∷ words) h = refl

-- ---- answers of calls that may want memory

-- ---- a stop

seen_answer : (request : SelectRequest) (read : Read FeaturedCoverage) (stop : LoadStop) (n : ℕ) (answer : Answer) → read ≡ (Err stop, n) → answer ≡ stop_answer stop
    → answer ≡ featured_answer request read.0
seen_answer request read stop n answer e is = rw e is

is_answer : (request : SelectRequest) (read : Read FeaturedCoverage) (stop : LoadStop) (n : ℕ) (answer : Answer) → ReadsStop stop n read → IsStopAnswer stop answer
    → answer ≡ featured_answer request read.0
is_answer request read stops.Fault n answer told is = absurd is
is_answer request read stops.NoMemory n answer told is = absurd is
is_answer request read (stops.Missing name) n answer told is = seen_answer request read (stops.Missing name) n answer told is
is_answer request read (stops.Place name place) n answer told is = seen_answer request read (stops.Place name place) n answer told is
is_answer request read (stops.Limit name limit) n answer told is = seen_answer request read (stops.Limit name limit) n answer told is
is_answer request read (stops.Finding name f) n answer told is = seen_answer request read (stops.Finding name f) n answer told is
is_answer request read (stops.Varies name) n answer told is = seen_answer request read (stops.Varies name) n answer told is

-- the reply to what stopped the load is the answer
pub select_stopped : (request : SelectRequest) (read : Read FeaturedCoverage) (stop : LoadStop) (n : ℕ) (result : Result Answer Halt) → ReadsStop stop n read
    → ComesTo (IsStopAnswer stop) result → ComesTo (λ answer. answer ≡ featured_answer request read.0) result
select_stopped request read stop n (Ok answer) told is = is_answer request read stop n answer told is
select_stopped request read stop n (Err (halts.Answered answer)) told is = is_answer request read stop n answer told is
select_stopped request read stop n (Err (halts.Stop cause)) told is = is

-- ---- a finding

-- where nothing is found on the coverage, its features are looked at
pub none_answers : (request : SelectRequest) (read : FeaturedCoverage) (first : Option Disagreement) (answer : Answer) → first ≡ None
    → answer ≡ schema_answer (within request.lib request.cov) request read.coverage.coverage read.schema (tables_finding (within request.lib request.cov) read.schema.tables)
    → answer ≡ coverage_answer request read first
none_answers request read first answer e is = rw e is

-- the answer over what was read
pub read_answers : (request : SelectRequest) (read : Read FeaturedCoverage) (v : FeaturedCoverage) (n : ℕ) (answer : Answer) → read ≡ (Ok v, n)
    → answer ≡ coverage_answer request v (coverage_numbers v.coverage.coverage) → answer ≡ featured_answer request read.0
read_answers request read v n answer e is = rw e is
