-- The answer of `tile` by what was read.
use Rattle.std.proofs.Common.{[], ◌≡◌, ◌∙◌, ℕ, ◌<◌, ◌≤◌, List, ◌∷◌, ◌++◌, length, Option, None, Some, map, refl, sym, ap, append_assoc, rules, arith}
use Rattle.std.specs.Prelude.{OnOk, Result, Ok, Err}
use Rattle.vpf_source.specs.declared.file.File.{File}
use Rattle.vpf_table.specs.Grid.{Grid}
use Rattle.vpf_library_files.specs.declared.table_files.errors.AddError.TheVariants as adds
use Rattle.vpf_feature_files.specs.Schemas.{Schema}
use Rattle.vpf_feature_writing.specs.Making.{Made}
use Rattle.vpf_library_commands.specs.Made.{files_answer}
use Rattle.vpf_features.specs.Finding.{Named}
use Rattle.vpf_findings.specs.Findings.{Disagreement}
use Rattle.vpf_findings.specs.Firsts.{◌or◌}
use Rattle.vpf_findings.specs.Printing.{disagree_text}
use Rattle.vpf_prims.specs.Coverages.{CoverageTables, tile_at}
use Rattle.vpf_prims.specs.Reading.{PrimitiveTables}
use Rattle.vpf_prims.specs.Tables.{TileTables}
use Rattle.vpf_findings.specs.Text.Texts.{◌&◌}
use Rattle.vpf_library_files.specs.Loading.Holding.{AreUntiledFiles}
use Rattle.vpf_tiler.specs.declared.errors.TileError.{TileError}
use Rattle.vpf_tiler.specs.Making.{made_result, tiled_with_features}
use Rattle.vpf_library_files.specs.Loading.Loading.{Read}
use Rattle.vpf_library_files.specs.Loading.Loads.{ReadsStop}
use Rattle.vpf_library_files.specs.declared.loading.loading.LoadStop.{LoadStop}
use Rattle.vpf_library_files.specs.declared.loading.loading.LoadStop.TheVariants as stops
use Rattle.vpf_replies.specs.declared.halting.Halt.{Halt}
use Rattle.vpf_replies.specs.declared.halting.Halt.TheVariants as halts
use Rattle.vpf_replies.specs.Answer.{Answer, refused}
use Rattle.vpf_replies.specs.Halting.{ComesTo}
use Rattle.vpf_featured.specs.LoadReplies.Stopping.{IsStopAnswer, stop_answer}
use Rattle.vpf_library_commands.specs.declared.requesting.MakeRequest.{MakeRequest}
use Rattle.vpf_library_commands.specs.Make.{make_request}
use Rattle.vpf_library_commands.specs.Tile.{TileParts, parts_answer, parts_finding, tables_answer, tiled_answer, tiling_answer}

-- ---- the request

-- fewer words than three spell none
pub few_words : {W : Type 0} (f : W → List ℕ) (words : List W) → length words < 3 → None ≡ make_request (map f words)
few_words f [] h = refl
few_words f (a ∷ []) h = refl
few_words f (a ∷ b ∷ []) h = refl
few_words f (a ∷ b ∷ c ∷ words) h = absurd (omega arith)

-- .. and so do more
pub many_words : {W : Type 0} (f : W → List ℕ) (words : List W) → 4 ≤ length words → None ≡ make_request (map f words)
many_words f [] h = absurd (omega arith)
many_words f (a ∷ []) h = absurd (omega arith)
many_words f (a ∷ b ∷ []) h = absurd (omega arith)
many_words f (a ∷ b ∷ c ∷ []) h = absurd (omega arith)
many_words f (a ∷ b ∷ c ∷ d ∷ words) h = refl

-- ---- texts and answers of calls that may want memory

-- two pieces that are put one behind the other
pub put_behind : {V E : Type 0} (r : Result V E) (a b c s t u : List ℕ) → t ≡ s ++ (a & b) → OnOk r (u ≡ t ++ c) → OnOk r (u ≡ s ++ (a & (b & c)))
put_behind (Ok v) a b c s t u e h = rw (h, e, append_assoc, append_assoc) refl
put_behind (Err x) a b c s t u e h = search rules

-- ---- a stop

seen_answer : (request : MakeRequest) (read : Read TileParts) (stop : LoadStop) (n : ℕ) (answer : Answer) → read ≡ (Err stop, n) → answer ≡ stop_answer stop
    → answer ≡ parts_answer request read.0
seen_answer request read stop n answer e is = rw e is

is_answer : (request : MakeRequest) (read : Read TileParts) (stop : LoadStop) (n : ℕ) (answer : Answer) → ReadsStop stop n read → IsStopAnswer stop answer
    → answer ≡ parts_answer request read.0
is_answer request read stops.Fault n answer told is = absurd is
is_answer request read stops.NoMemory n answer told is = absurd is
is_answer request read (stops.Missing name) n answer told is = seen_answer request read (stops.Missing name) n answer told is
is_answer request read (stops.Place name place) n answer told is = seen_answer request read (stops.Place name place) n answer told is
is_answer request read (stops.Limit name limit) n answer told is = seen_answer request read (stops.Limit name limit) n answer told is
is_answer request read (stops.Finding name f) n answer told is = seen_answer request read (stops.Finding name f) n answer told is
is_answer request read (stops.Varies name) n answer told is = seen_answer request read (stops.Varies name) n answer told is

-- the reply to what stopped the load is the answer
pub tile_stopped : (request : MakeRequest) (read : Read TileParts) (stop : LoadStop) (n : ℕ) (result : Result Answer Halt) → ReadsStop stop n read
    → ComesTo (IsStopAnswer stop) result → ComesTo (λ answer. answer ≡ parts_answer request read.0) result
tile_stopped request read stop n (Ok answer) told is = is_answer request read stop n answer told is
tile_stopped request read stop n (Err (halts.Answered answer)) told is = is_answer request read stop n answer told is
tile_stopped request read stop n (Err (halts.Stop cause)) told is = is

-- ---- the files, or why there are none

-- the tables of an untiled coverage
pub untiled_tables : (lib cov : List ℕ) (c : CoverageTables) (files : List File) → AreUntiledFiles lib cov c files → (T : TileTables) × (tile_at c 0 ≡ Some T)
untiled_tables lib cov c files are = (record { first = 0; tables = are.tables }, ap (λ (x : CoverageTables). tile_at x 0) are.is)

-- tiling comes to the same of the same names, tables and features
pub tiled_same : (T : PrimitiveTables) (S : Schema) (cov cov' : List ℕ) (plan plan' tileref tileref' : Grid) → cov ≡ cov' → plan ≡ plan' → tileref ≡ tileref'
    → tiled_with_features cov T S plan tileref ≡ tiled_with_features cov' T S plan' tileref'
tiled_same T S cov cov' plan plan' tileref tileref' e f h =
    ap (λ (x : List ℕ). tiled_with_features x T S plan tileref) e
    ∙ (ap (λ (x : Grid). tiled_with_features cov' T S x tileref) f ∙ ap (λ (x : Grid). tiled_with_features cov' T S plan' x) h)

-- the answer over the tables
pub over_tables : (request : MakeRequest) (S : Schema) (c : CoverageTables) (plan tileref : Grid) (T : TileTables) (answer : Answer) → tile_at c 0 ≡ Some T
    → answer ≡ tiled_answer request S (tiled_with_features request.cov T.tables S plan tileref) → answer ≡ tables_answer request S (tile_at c 0) plan tileref
over_tables request S c plan tileref T answer e is = rw e is

-- ---- what tiling comes to

-- files that are made, or the limit of one, are answered as they are made in the folder that is asked for
made_answered : (request : MakeRequest) (S : Schema) (made : Made) → tiled_answer request S (made_result made) ≡ files_answer request.out made
made_answered request S (Ok files) = refl
made_answered request S (Err (adds.Limit name limit)) = refl
made_answered request S (Err adds.NoMemory) = refl

-- so the reply to them is the answer
pub made_so : (request : MakeRequest) (S : Schema) (out : List ℕ) (made : Made) (ought : Result (List File) TileError) (answer : Answer) → out ≡ request.out
    → ought ≡ made_result made → answer ≡ files_answer out made → answer ≡ tiled_answer request S ought
made_so request S out made ought answer same e is =
    is ∙ ap (λ (o : List ℕ). files_answer o made) same ∙ sym (made_answered request S made) ∙ ap (tiled_answer request S) (sym e)

-- ---- a finding

-- where nothing is found, the tables are tiled
pub none_answers : (request : MakeRequest) (parts : TileParts) (S : Schema) (first : Option Named) (answer : Answer) → first ≡ None → S ≡ parts.schema
    → answer ≡ tables_answer request S (tile_at parts.coverage.coverage 0) parts.plan.grid parts.tileref.grid → answer ≡ tiling_answer request parts first
none_answers request parts S first answer e same is =
    rw e (is ∙ ap (λ (x : Schema). tables_answer request x (tile_at parts.coverage.coverage 0) parts.plan.grid parts.tileref.grid) same)

-- where something is found, that is told
pub finding_answers : (request : MakeRequest) (parts : TileParts) (first : Option Named) (name shown : List ℕ) (d : Disagreement) (answer : Answer) → first ≡ Some (name, d)
    → shown ≡ name → answer ≡ refused (disagree_text shown d) → answer ≡ tiling_answer request parts first
finding_answers request parts first name shown d answer e same is = rw e (is ∙ ap (λ (n : List ℕ). refused (disagree_text n d)) same)

-- what is found first is found
pub first_of_both : (first later : Option Named) (name : List ℕ) (d : Disagreement) → first ≡ Some (name, d) → (first or later) ≡ Some (name, d)
first_of_both first later name d e = rw e refl

-- the answer over what was read
pub read_answers : (request : MakeRequest) (read : Read TileParts) (parts : TileParts) (n : ℕ) (answer : Answer) → read ≡ (Ok parts, n)
    → answer ≡ tiling_answer request parts (parts_finding request parts) → answer ≡ parts_answer request read.0
read_answers request read parts n answer e is = rw e is
