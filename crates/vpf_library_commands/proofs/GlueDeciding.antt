-- `glue` is done only of a coverage in tiles that agrees with its features.
use Rattle.std.proofs.Common.{◌≡◌, ◌∙◌, ℕ, Bool, true, false, List, ◌++◌, map, Option, None, Some, refl, ap, subst}
use Rattle.std.specs.Prelude.{Result, Ok, Err, if◌then◌else◌, is_some}
use Rattle.vpf_source.specs.Files.{Files, HoldsBytes}
use Rattle.vpf_source.specs.declared.file.File.{File}
use Rattle.vpf_library_files.specs.Loading.Loading.{within}
use Rattle.vpf_library_files.specs.declared.loading.loading.LoadStop.{LoadStop}
use Rattle.vpf_library_files.specs.declared.table_files.errors.AddError.TheVariants as errors
use Rattle.vpf_coverage.specs.Inner.Opening.OpenLaws.{OpenedReads}
use Rattle.vpf_glue.specs.Tables.{glued_made}
use Rattle.vpf_glue.specs.Inner.GluedReading.Laws.{GluedTablesAreRead}
use Rattle.vpf_replies.specs.declared.verdict.Verdict.TheVariants.{Done}
use Rattle.vpf_replies.specs.Answer.{Answer}
use Rattle.vpf_replies.specs.Refusals.{UntiledCoverage, refusal_answer}
use Rattle.vpf_features.specs.Finding.{Named}
use Rattle.vpf_feature_writing.specs.Making.{Made, features_made, made_then}
use Rattle.vpf_featured.specs.Finding.{featured_finding}
use Rattle.vpf_featured.specs.Reading.{FeaturedCoverage, read_featured}
use Rattle.vpf_library_commands.specs.declared.requesting.MakeRequest.{MakeRequest}
use Rattle.vpf_library_commands.specs.Glue.{gluing_answer, joined_answer, own_edges_name, tileref_answer}
use Rattle.vpf_library_commands.specs.Gluing.{GlueDecides, IsGluing, glued_request}
use Rattle.vpf_library_commands.specs.Made.{file_within, files_answer}
use Rattle.vpf_library_commands.specs.Inner.DecidingLaws.{stop_refuses}
use Rattle.vpf_library_commands.proofs.Deciding.{ReadLaws, agreeing_read}
use Rattle.vpf_library_commands.proofs.GlueAnswers.{SpelledOpens, featured_is_tiled, tiled_files, tileref_first}

-- files are made only where no file passes a limit
record BothMade (out : List ℕ) (tables features : Made) (made : List File) : Type 0 where
  first : List File
  first_are : tables ≡ Ok first
  later : List File
  later_are : features ≡ Ok later
  are : made ≡ map (file_within out) (first ++ later)

both_made : (out : List ℕ) (tables features : Made) → (files_answer out (made_then tables features)).verdict ≡ Done
    → BothMade out tables features (files_answer out (made_then tables features)).made
both_made out (Ok first) (Ok later) h = record { first = first; first_are = refl; later = later; later_are = refl; are = refl }
both_made out (Ok first) (Err (errors.Limit name limit)) h = absurd cc
both_made out (Ok first) (Err errors.NoMemory) h = absurd cc
both_made out (Err (errors.Limit name limit)) features h = absurd cc
both_made out (Err errors.NoMemory) features h = absurd cc

-- what is so of reading, of tables, and of gluing
pub record GlueLaws : Type 0 where
  pub reads : ReadLaws
  pub says : GluedTablesAreRead
  pub spelled : SpelledOpens
  pub again : OpenedReads

pub glue_laws : ReadLaws → GluedTablesAreRead → SpelledOpens → OpenedReads → GlueLaws
glue_laws reads says spelled again = record { reads = reads; says = says; spelled = spelled; again = again }

-- of what was read, by the first finding
glued_so : GlueLaws → (files : Files) (request : MakeRequest) → HoldsBytes files → is_some (files (own_edges_name request.lib request.cov)) ≡ false
    → (v : FeaturedCoverage) (n : ℕ) → read_featured files request.lib request.cov 0 ≡ (Ok v, n)
    → (first : Option Named) → featured_finding (within request.lib request.cov) v ≡ first → (gluing_answer request v first).verdict ≡ Done
    → IsGluing files request (gluing_answer request v first).made
glued_so laws files request bytes none v n e (Some (name, d)) found h = absurd cc
glued_so laws files request bytes none v n e None found h =
    let c = v.coverage.coverage in
    let agrees = agreeing_read laws.reads files (glued_request request) bytes v n e found in
    let tiled = tiled_files request.lib request.cov c v.coverage.files agrees.held.are (featured_is_tiled files request.lib request.cov v n none e) in
    let table = tileref_first laws.spelled laws.again request.lib request.cov c v.coverage.files tiled in
    let answer : gluing_answer request v None ≡ files_answer request.out (made_then (glued_made request.cov c tiled.tileref) (features_made request.cov v.schema)) =
    ap (tileref_answer request v) table in
    let made = both_made request.out (glued_made request.cov c tiled.tileref) (features_made request.cov v.schema) (subst (λ (a : Answer). a.verdict ≡ Done) answer h) in
    record {
      read = v;
      agrees = agrees;
      tiled = tiled;
      says = λ first is. laws.says c first (record {
        columns = agrees.columns;
        whole = laws.reads.coverage.whole request.lib request.cov c v.coverage.files agrees.held.are;
        agrees = agrees.rows;
        tables = is;
      });
      tables = made.first;
      tables_are = made.first_are;
      features = made.later;
      features_are = made.later_are;
      are = ap (λ (a : Answer). a.made) answer ∙ made.are;
    }

-- by what was read
glued_read : GlueLaws → (files : Files) (request : MakeRequest) → HoldsBytes files → is_some (files (own_edges_name request.lib request.cov)) ≡ false
    → (read : Result FeaturedCoverage LoadStop) (n : ℕ) → read_featured files request.lib request.cov 0 ≡ (read, n) → (joined_answer request read).verdict ≡ Done
    → IsGluing files request (joined_answer request read).made
glued_read laws files request bytes none (Err stop) n e h = absurd (stop_refuses stop h)
glued_read laws files request bytes none (Ok v) n e h = glued_so laws files request bytes none v n e (featured_finding (within request.lib request.cov) v) refl h

-- by whether the coverage has edges of its own
abbrev by_edges : Files → MakeRequest → Bool → Answer
by_edges files request own =
    if own then refusal_answer (UntiledCoverage (own_edges_name request.lib request.cov)) else joined_answer request (read_featured files request.lib request.cov 0).0

glued_by : GlueLaws → (files : Files) (request : MakeRequest) → HoldsBytes files → (own : Bool) → is_some (files (own_edges_name request.lib request.cov)) ≡ own
    → (by_edges files request own).verdict ≡ Done → IsGluing files request (by_edges files request own).made
glued_by laws files request bytes true is h = absurd cc
glued_by laws files request bytes false is h =
    glued_read laws files request bytes is (read_featured files request.lib request.cov 0).0 (read_featured files request.lib request.cov 0).1 refl h

pub glue_decides : GlueLaws → GlueDecides
glue_decides laws files request bytes h = glued_by laws files request bytes (is_some (files (own_edges_name request.lib request.cov))) refl h
