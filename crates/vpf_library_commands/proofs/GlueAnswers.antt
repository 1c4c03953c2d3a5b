-- The answer of `glue` by what was read.
use Rattle.std.proofs.Common.{◌≡◌, ◌∙◌, ℕ, Bool, true, false, cond, List, ◌++◌, Option, None, Some, refl, sym, ap, subst, inl, inr}
use Rattle.std.specs.Prelude.{Ok, Err, is_some, length}
use Rattle.vpf_source.specs.Files.{Files}
use Rattle.vpf_source.specs.declared.file.File.{File}
use Rattle.vpf_table.specs.Grid.{Grid}
use Rattle.vpf_table.specs.Opening.{opened_of}
use Rattle.vpf_table.specs.Reading.{table_of}
use Rattle.vpf_table.specs.Spans.{IsOpened}
use Rattle.vpf_prims.specs.Coverages.{CoverageTables}
use Rattle.vpf_library_files.specs.Tileref.Stops.{path_texts}
use Rattle.vpf_library_files.specs.Loading.Holding.{AreCoverageFiles, AreFilesOf, AreTiledFiles, AreTilesFiles}
use Rattle.vpf_library_files.specs.Loading.Loading.{LoadedCoverage, Read, ◌and_then◌, has_some, read_coverage, read_tiled, read_tileref, read_tiles, tileref_name, within}
use Rattle.vpf_library_files.specs.declared.loading.loading.LoadStop.{LoadStop}
use Rattle.vpf_glue.specs.Tables.{glued_made}
use Rattle.vpf_replies.specs.Answer.{Answer}
use Rattle.vpf_features.specs.Finding.{Named}
use Rattle.vpf_feature_files.specs.Reading.{read_schema}
use Rattle.vpf_feature_files.specs.Schemas.{Schema}
use Rattle.vpf_features.specs.Inner.FeatureAgreement.StepLaws.{both_ok, came, value_same}
use Rattle.vpf_feature_writing.specs.Making.{features_made, made_then}
use Rattle.vpf_featured.specs.Finding.{featured_finding}
use Rattle.vpf_featured.specs.Reading.{FeaturedCoverage, read_featured}
use Rattle.vpf_library_commands.specs.declared.requesting.MakeRequest.{MakeRequest}
use Rattle.vpf_library_commands.specs.Glue.{first_table, gluing_answer, joined_answer, own_edges_name, tileref_answer}
use Rattle.vpf_library_commands.specs.Made.{files_answer}
use Rattle.vpf_library_commands.proofs.CheckAnswers.{IsReadStopped}
use Rattle.vpf_coverage.specs.Inner.Opening.OpenLaws.{OpenedReads}

-- ---- the table of tiles

-- what is spelled as a table is opened as that table, and what is opened is read
abbrev pub SpelledOpens : Type 0
SpelledOpens = (bytes : List ℕ) (index : Option (List ℕ)) (g : Grid) → IsOpened g bytes index → opened_of bytes index ≡ Ok g

first_of_files : SpelledOpens → OpenedReads → (name : List ℕ) (grid : Grid) (mine behind : List File) → AreFilesOf name grid mine
    → first_table (mine ++ behind) ≡ Some grid
first_of_files spelled read name grid mine behind (inl plain) =
    let is : table_of plain.bytes ≡ Ok grid = read plain.bytes None grid (spelled plain.bytes None grid plain.opened) in
    rw (plain.are, is) refl
first_of_files spelled read name grid mine behind (inr indexed) =
    let is : table_of indexed.bytes ≡ Ok grid = read indexed.bytes (Some indexed.index) grid (spelled indexed.bytes (Some indexed.index) grid indexed.opened) in
    rw (indexed.are, is) refl

-- it is the table in the first of the files of a coverage in tiles
pub tileref_first : SpelledOpens → OpenedReads → (lib cov : List ℕ) (c : CoverageTables) (files : List File) (are : AreTiledFiles lib cov c files)
    → first_table files ≡ Some are.tileref
tileref_first spelled read lib cov c files are =
    ap first_table are.are ∙ first_of_files spelled read (tileref_name lib) are.tileref are.before are.behind are.tileref_is

-- the files of a coverage in tiles
pub tiled_files : (lib cov : List ℕ) (c : CoverageTables) (files : List File) → AreCoverageFiles lib cov c files → c.is_tiled ≡ true → AreTiledFiles lib cov c files
tiled_files lib cov c files (inl untiled) tiled = absurd (let no : false ≡ true = sym (ap (λ (x : CoverageTables). x.is_tiled) untiled.is) ∙ tiled in cc)
tiled_files lib cov c files (inr are) tiled = are

-- they are the same files under equal names, with the same table of tiles
pub moved_tiled : (lib other cov name : List ℕ) (c : CoverageTables) (files : List File) (are : AreTiledFiles lib cov c files) → other ≡ lib → name ≡ cov
    → (there : AreTiledFiles other name c files) × (there.tileref ≡ are.tileref)
moved_tiled lib other cov name c files are e f =
    let tiles : AreTilesFiles (within other name) (length are.before) (path_texts are.tileref) are.tiles are.behind =
    subst (λ l. AreTilesFiles (within l name) (length are.before) (path_texts are.tileref) are.tiles are.behind) (sym e)
    (subst (λ n. AreTilesFiles (within lib n) (length are.before) (path_texts are.tileref) are.tiles are.behind) (sym f) are.tiles_are) in (
      record {
        tileref = are.tileref;
        tiles = are.tiles;
        before = are.before;
        behind = are.behind;
        is = are.is;
        are = are.are;
        tileref_is = subst (λ l. AreFilesOf (tileref_name l) are.tileref are.before) (sym e) are.tileref_is;
        right = are.right;
        bounded = are.bounded;
        tiles_are = tiles;
        some = are.some;
      },
      refl,
    )

-- the answer is that to the same of the same names and tables
pub answer_same : (out folder cov name : List ℕ) (c there : CoverageTables) (tileref other : Grid) (S : Schema) (answer : Answer) → out ≡ folder → cov ≡ name
    → c ≡ there → tileref ≡ other → answer ≡ files_answer out (made_then (glued_made cov c tileref) (features_made cov S))
    → answer ≡ files_answer folder (made_then (glued_made name there other) (features_made name S))
answer_same out folder cov name c there tileref other S answer e f g h is = rw (e, f, g, h) at is

-- ---- a coverage without edges of its own is tiled

-- it is so of what was read
abbrev AllRead : {V : Type 0} → (V → Type 0) → Read V → Type 0
AllRead P (Ok v, n) = P v
AllRead P (Err stop, n) = Unit {0}

all_then : {V W : Type 0} (P : W → Type 0) (r : Read V) (next : V → ℕ → Read W) → ((v : V) (n : ℕ) → AllRead P (next v n)) → AllRead P (r and_then next)
all_then P (Ok v, n) next h = h v n
all_then P (Err stop, n) next h = tt

abbrev IsTiledRead : LoadedCoverage → Type 0
IsTiledRead c = c.coverage.is_tiled ≡ true

some_tiled : (b : Bool) (c : LoadedCoverage) (stop : LoadStop) (n : ℕ) → c.coverage.is_tiled ≡ true → AllRead IsTiledRead (cond {A = Read LoadedCoverage} b (Ok c, n) (Err stop, n))
some_tiled true c stop n h = h
some_tiled false c stop n h = tt

tiled_read : (files : Files) (lib cov : List ℕ) (n : ℕ) → AllRead IsTiledRead (read_tiled files lib cov n)
tiled_read files lib cov n =
    all_then IsTiledRead (read_tileref files lib n) _ (λ tileref k.
    all_then IsTiledRead (read_tiles files (within lib cov) (path_texts tileref.grid) k) _ (λ tiles m. some_tiled (has_some tiles) _ _ m refl))

no_edges : (files : Files) (lib cov : List ℕ) (o : Option (List ℕ)) → files (own_edges_name lib cov) ≡ o → is_some o ≡ false
    → read_coverage files lib cov 0 ≡ read_tiled files lib cov 0
no_edges files lib cov None e h = rw e refl
no_edges files lib cov (Some bytes) e h = absurd cc

value_tiled : (r : Read LoadedCoverage) (c : LoadedCoverage) → AllRead IsTiledRead r → r.0 ≡ Ok c → c.coverage.is_tiled ≡ true
value_tiled (Ok v, n) c h e = let same : v ≡ c = cc in subst IsTiledRead same h
value_tiled (Err stop, n) c h e = absurd cc

-- a coverage that is read as a tiled one is tiled
pub tiled_when_read : (files : Files) (lib cov : List ℕ) (n : ℕ) (c : LoadedCoverage) → (read_tiled files lib cov n).0 ≡ Ok c → c.coverage.is_tiled ≡ true
tiled_when_read files lib cov n c e = value_tiled (read_tiled files lib cov n) c (tiled_read files lib cov n) e

pub read_is_tiled : (files : Files) (lib cov : List ℕ) (c : LoadedCoverage) → is_some (files (own_edges_name lib cov)) ≡ false
    → (read_coverage files lib cov 0).0 ≡ Ok c → c.coverage.is_tiled ≡ true
read_is_tiled files lib cov c none e =
    value_tiled (read_tiled files lib cov 0) c (tiled_read files lib cov 0)
    (sym (ap (λ (r : Read LoadedCoverage). r.0) (no_edges files lib cov (files (own_edges_name lib cov)) refl none)) ∙ e)

-- .. also with its features
abbrev with_schema : LoadedCoverage → Schema → ℕ → Read FeaturedCoverage
with_schema c schema n = came {V = FeaturedCoverage} (record { coverage = c; schema = schema }) n

pub featured_is_tiled : (files : Files) (lib cov : List ℕ) (read : FeaturedCoverage) (n : ℕ) → is_some (files (own_edges_name lib cov)) ≡ false
    → read_featured files lib cov 0 ≡ (Ok read, n) → read.coverage.coverage.is_tiled ≡ true
featured_is_tiled files lib cov read n none e =
    let first = both_ok (read_coverage files lib cov 0) (λ c m. read_schema files (within lib cov) m and_then with_schema c) read n e in
    let second = both_ok (read_schema files (within lib cov) first.count) (with_schema first.value) read n first.then in
    let featured : FeaturedCoverage = record { coverage = first.value; schema = second.value } in
    let same : featured ≡ read = value_same featured read second.count n second.then in
    let loaded : (read_coverage files lib cov 0).0 ≡ Ok first.value = ap (λ (r : Read LoadedCoverage). r.0) first.comes in
    subst (λ (r : FeaturedCoverage). r.coverage.coverage.is_tiled ≡ true) same (read_is_tiled files lib cov first.value none loaded)

-- ---- findings

-- where nothing is found, the tables are glued
pub none_answers : (request : MakeRequest) (read : FeaturedCoverage) (tileref : Grid) (first : Option Named) (answer : Answer) → first ≡ None
    → first_table read.coverage.files ≡ Some tileref → answer ≡ tileref_answer request read (Some tileref) → answer ≡ gluing_answer request read first
none_answers request read tileref first answer none table is = rw (none, table) is

-- ---- a stop

-- `glue` answers a stop so
pub glue_stopped : (request : MakeRequest) → IsReadStopped (λ read answer. answer ≡ joined_answer request read)
glue_stopped request = record { at = λ stop answer is. is }

-- the answer over what was read
pub glue_read : (request : MakeRequest) (read : Read FeaturedCoverage) (v : FeaturedCoverage) (n : ℕ) (answer : Answer) → read ≡ (Ok v, n)
    → answer ≡ gluing_answer request v (featured_finding (within request.lib request.cov) v) → answer ≡ joined_answer request read.0
glue_read request read v n answer e is = rw e is
