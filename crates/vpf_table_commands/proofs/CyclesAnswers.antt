-- `cycles` has one answer.
use Rattle.std.proofs.Common.{◌≡◌, ℕ, Bool, true, false, List, Option, None, Some, Result, Ok, Err, refl, sym, ◌∙◌, ap}
use Rattle.vpf_base.specs.Limits.{most_bytes}
use Rattle.vpf_source.specs.Loading.{load_answer}
use Rattle.vpf_triplet.specs.declared.places.Place.{Place}
use Rattle.vpf_darts.specs.declared.darts.TileDart.{TileDart}
use Rattle.vpf_head.specs.Head.{varies_in}
use Rattle.vpf_findings.specs.Findings.{Disagreement}
use Rattle.vpf_findings.specs.Printing.{disagree_text}
use Rattle.vpf_table.specs.Grid.{Grid}
use Rattle.vpf_table.specs.Reading.{table_of}
use Rattle.vpf_wing.specs.Boundaries.{table_finding}
use Rattle.vpf_wing.specs.Inner.Laws.{HasBoundaryListing, OneBoundaryListing}
use Rattle.vpf_replies.specs.Answer.{Answer, done, refused}
use Rattle.vpf_replies.specs.Found.{IsLoadedAnswer, large_answer, missing_answer, on_loaded}
use Rattle.vpf_replies.specs.declared.halting.Halt.{Halt}
use Rattle.vpf_replies.specs.declared.halting.Halt.TheVariants as halts
use Rattle.vpf_replies.specs.Halting.{Halts}
use Rattle.vpf_replies.specs.Refusals.{VaryingRows, refusal_answer}
use Rattle.vpf_replies.specs.Tables.{IsTableAnswer, fault_answer}
use Rattle.vpf_table_commands.specs.Cycles.{HasCyclesAnswer, IsBytesCycles, IsEdgesAnswer, IsGridCycles, OneCyclesAnswer}
use Rattle.vpf_replies.specs.Listings.{listing_text}

edges_have : HasBoundaryListing → (name : List ℕ) (grid : Grid) (varies : Bool) (finding : Option Disagreement) → table_finding grid ≡ finding → (answer : Answer) × IsEdgesAnswer name grid varies finding answer
edges_have listings name grid true finding e = (refusal_answer (VaryingRows name), refl)
edges_have listings name grid false (Some finding) e = (refused (disagree_text name finding), refl)
edges_have listings name grid false None e = let cycles = listings grid e in (done (listing_text cycles.0), (cycles.0, cycles.1, refl))

tables_have : HasBoundaryListing → (name : List ℕ) (table : Result Grid Place) → (answer : Answer) × IsTableAnswer (IsGridCycles name) name table answer
tables_have listings name (Ok grid) = edges_have listings name grid (varies_in grid.head.columns) (table_finding grid) refl
tables_have listings name (Err place) = (fault_answer name place, refl)

files_have : HasBoundaryListing → (name : List ℕ) (loaded : Result (Option (List ℕ)) ℕ) → (answer : Answer) × IsLoadedAnswer (IsBytesCycles name) name loaded answer
files_have listings name (Ok (Some bytes)) = tables_have listings name (table_of bytes)
files_have listings name (Ok None) = (missing_answer name, refl)
files_have listings name (Err size) = (large_answer name size, refl)

pub has_cycles : HasBoundaryListing → HasCyclesAnswer
has_cycles listings files request = files_have listings request.file (load_answer (files request.file) most_bytes)

both : (a b c : Answer) → a ≡ c → b ≡ c → a ≡ b
both a b c e f = e ∙ sym f

edges_one : OneBoundaryListing → (name : List ℕ) (grid : Grid) (varies : Bool) (finding : Option Disagreement) (a b : Answer) → IsEdgesAnswer name grid varies finding a → IsEdgesAnswer name grid varies finding b → a ≡ b
edges_one one name grid true finding a b e f = both a b _ e f
edges_one one name grid false (Some finding) a b e f = both a b _ e f
edges_one one name grid false None a b e f = e.2 ∙ ap (λ (cycles : List (List TileDart)). done (listing_text cycles)) (one grid e.0 f.0 e.1 f.1) ∙ sym f.2

tables_one : OneBoundaryListing → (name : List ℕ) (table : Result Grid Place) (a b : Answer) → IsTableAnswer (IsGridCycles name) name table a → IsTableAnswer (IsGridCycles name) name table b → a ≡ b
tables_one one name (Ok grid) a b e f = edges_one one name grid (varies_in grid.head.columns) (table_finding grid) a b e f
tables_one one name (Err place) a b e f = both a b _ e f

files_one : OneBoundaryListing → (name : List ℕ) (loaded : Result (Option (List ℕ)) ℕ) (a b : Answer) → IsLoadedAnswer (IsBytesCycles name) name loaded a → IsLoadedAnswer (IsBytesCycles name) name loaded b → a ≡ b
files_one one name (Ok (Some bytes)) a b e f = tables_one one name (table_of bytes) a b e f
files_one one name (Ok None) a b e f = both a b _ e f
files_one one name (Err size) a b e f = both a b _ e f

pub one_cycles : OneBoundaryListing → OneCyclesAnswer
one_cycles one files request a b e f = files_one one request.file (load_answer (files request.file) most_bytes) a b e f

-- ---- what is answered in place of a file

-- the reply is that over every file that would be read so, and so none was
pub answered_in_place : (name : List ℕ) (loaded : Result (Option (List ℕ)) ℕ) (halt : Halt) → ((over : List ℕ → Answer) → Halts (λ reply. reply ≡ on_loaded over (missing_answer name) name loaded) halt) → Halts (IsLoadedAnswer (IsBytesCycles name) name loaded) halt
answered_in_place name loaded (halts.Stop stop) h = tt
answered_in_place name (Ok (Some bytes)) (halts.Answered reply) h = absurd (cc (sym (ap (λ (a : Answer). a.verdict) (h done)) ∙ ap (λ (a : Answer). a.verdict) (h refused)))
answered_in_place name (Ok None) (halts.Answered reply) h = h done
answered_in_place name (Err size) (halts.Answered reply) h = h done
