-- What is cut into tiles is exactly a source that the tree holds.
use Rattle.std.proofs.Common.{◌≡◌, ◌∙◌, ℕ, zero, suc, ◌+◌, ◌≤◌, true, false, List, Option, None, Some, Ok, Err, length, refl, sym, ap, subst, arith}
use Rattle.std.proofs.Math.Dec.{eqb-suc-zero}
use Rattle.std.specs.Prelude.{Result}
use Rattle.vpf_source.specs.Files.{Files, HoldsBytes}
use Rattle.vpf_findings.specs.Findings.{Disagreement}
use Rattle.vpf_prims.specs.Coverages.{CoverageTables, tile_at, untiled_coverage}
use Rattle.vpf_prims.specs.Libraries.{IsLibrary, library_of}
use Rattle.vpf_prims.specs.Numbering.{IsNumbered}
use Rattle.vpf_prims.specs.Primitives.{Primitives, has_tables, untiled}
use Rattle.vpf_prims.specs.Reading.{primitives_of}
use Rattle.vpf_prims.specs.Tables.{TileTables}
use Rattle.vpf_numbers.specs.Matching.{HaveColumns}
use Rattle.vpf_library_files.specs.Inner.Loading.HeldLaws.{SpelledAreOpened, held_is_loaded}
use Rattle.vpf_library_files.specs.Inner.Loading.Laws.{FilesAreLibraries, HeldIsRead, ReadIsHeld}
use Rattle.vpf_library_files.specs.Inner.Loading.ReadLaws.{OpenedAreSpelled, required_table_is}
use Rattle.vpf_library_files.specs.Inner.Loading.StepLaws.{gives, no_value, one_count, steps, value_is}
use Rattle.vpf_library_files.specs.Loading.Holding.{AreFilesOf, AreHeld, HoldsCoverage, bytes_in}
use Rattle.vpf_library_files.specs.Loading.Loading.{LoadedCoverage, LoadedTable, LoadedTile, Read, ◌and_then◌, most_loaded, read_coverage, read_table, read_tile, read_tileref, tileref_name, tileref_stopped, unless_stopped, untiled_or_tiled, within}
use Rattle.vpf_library_files.specs.Tileref.Stops.{IsBounded, TilerefStop, tileref_stop}
use Rattle.vpf_library_files.specs.Tileref.Tileref.{IsTileref}
use Rattle.vpf_library_files.specs.declared.loading.loading.LoadStop.{LoadStop}
use Rattle.vpf_wing.specs.WellFormed.{HasCycles, IsWellFormed}
use Rattle.vpf_cross.specs.Agreeing.{LibraryAgrees}
use Rattle.vpf_tiling.specs.Inner.Plan.Laws.{PlansDecide}
use Rattle.vpf_tiling.specs.Inner.Tileable.Laws.{RefusalsDecide}
use Rattle.vpf_tiling.specs.Plan.PlanLoads.{ArePlanFiles, read_plan, unless_found}
use Rattle.vpf_tiling.specs.Plan.Plans.{plan_finding}
use Rattle.vpf_tiling.specs.Plan.Untiled.{read_untiled, tables_or_missing}
use Rattle.vpf_feature_files.specs.Holding.{HoldsSchema}
use Rattle.vpf_feature_files.specs.Inner.Laws.{HeldSchemaIsRead}
use Rattle.vpf_feature_files.specs.Reading.{read_schema}
use Rattle.vpf_library_commands.specs.CutBy.{names_of_faces, plan_refusal}
use Rattle.vpf_library_commands.specs.Reading.{FeaturedCoverage}
use Rattle.vpf_replies.specs.Answer.{Answer, done}
use Rattle.vpf_library_commands.specs.declared.checking.CheckRequest.{CheckRequest}
use Rattle.vpf_library_commands.specs.declared.requesting.MakeRequest.{MakeRequest}
use Rattle.vpf_library_commands.specs.Agreeing.{IsAgreeing}
use Rattle.vpf_library_commands.specs.Check.{agrees_text, found_answer, read_answer, read_finding}
use Rattle.vpf_library_commands.specs.Tile.{TileParts, featured_in, parts_finding, plan_name, read_parts, read_untiled_featured, tile_parts}
use Rattle.vpf_library_commands.specs.TileTheorem.Tilings.Sources.{HoldsTileParts, IsTileSource}
use Rattle.vpf_library_commands.specs.Inner.TileTheorem.Tilings.Laws.{CutIsSource, SourceIsCut}
use Rattle.vpf_library_commands.specs.Inner.TileTheorem.Tilings.SourceLaws.{parts_read, unfound}
use Rattle.vpf_library_commands.proofs.CheckAnswers.{both_of}
use Rattle.vpf_library_commands.proofs.Deciding.{finding_refuses}
use Rattle.vpf_library_commands.proofs.Example.{library_alone}
use Rattle.vpf_library_commands.proofs.GlueAnswers.{tiled_when_read}
use Rattle.vpf_library_commands.proofs.tile_theorem.tilings.SourceLemmas.{some_tables}
use Rattle.vpf_library_commands.proofs.tile_theorem.tilings.TilingLemmas.{Known, tileable}

-- what is known of tables, coverages, features and plans, besides what is of tilings
pub record KnownOfSources : Type 0 where
  pub known : Known
  pub spelled : SpelledAreOpened
  pub opened : OpenedAreSpelled
  pub libraries : FilesAreLibraries
  pub held : HeldIsRead
  pub read : ReadIsHeld
  pub schema : HeldSchemaIsRead
  pub plans : PlansDecide
  pub refusals : RefusalsDecide

-- ---- a well-formed coverage, alone, agrees

no_tables : (c : Primitives) (t : ℕ) → has_tables (untiled c) (suc t) ≡ true → ⊥
no_tables c t h =
    let none : has_tables (untiled c) (suc t) ≡ false = rw (eqb-suc-zero t) refl in
    let e : false ≡ true = sym none ∙ h in cc

numbered_in : (c : Primitives) → IsNumbered (untiled c) 0 → (t : ℕ) → has_tables (untiled c) t ≡ true → IsNumbered (untiled c) t
numbered_in c own zero h = own
numbered_in c own (suc t) h = absurd (no_tables c t h)

cycles_in : (c : Primitives) → HasCycles (untiled c) 0 → (t : ℕ) → has_tables (untiled c) t ≡ true → HasCycles (untiled c) t
cycles_in c own zero h = own
cycles_in c own (suc t) h = absurd (no_tables c t h)

untiled_agrees : (c : Primitives) → IsLibrary (untiled c) → IsWellFormed c → LibraryAgrees (untiled c)
untiled_agrees c library right = record {
  library = library;
  numbered = numbered_in c right.numbered;
  loops = right.loops;
  cycles = cycles_in c right.cycles;
  across = λ tiled. absurd (let e : false ≡ true = tiled in cc);
}

-- ---- a source is cut

-- the coverage as `check` is asked for it
abbrev source_request : MakeRequest → CheckRequest
source_request request = record { lib = request.lib; cov = request.cov }

source_agrees : KnownOfSources → (files : Files) (request : MakeRequest) (parts : TileParts) (T : TileTables) → IsTileSource files request parts T
    → IsAgreeing files (source_request request) (featured_in parts)
source_agrees k files request parts T s =
    let same : untiled (primitives_of T.tables) ≡ library_of parts.coverage.coverage = sym (ap library_of s.untiled ∙ library_alone T) in
    let library = k.libraries request.lib request.cov parts.coverage.coverage parts.coverage.files s.held.coverage.are in
    let own = untiled_agrees (primitives_of T.tables) (subst IsLibrary (sym same) library) s.may_be.well_formed in
    record { held = s.held.coverage; columns = s.columns; rows = subst LibraryAgrees same own; featured = s.held.schema; features = s.features }

source_unfound : KnownOfSources → (files : Files) (request : MakeRequest) (parts : TileParts) (T : TileTables) → IsTileSource files request parts T
    → parts_finding request parts ≡ None
source_unfound k files request parts T s =
    let asked = source_request request in
    let v = featured_in parts in
    let agrees = source_agrees k files request parts T s in
    let said : found_answer v.coverage.coverage (read_finding asked v) ≡ done (agrees_text v.coverage.coverage) =
    sym (ap (λ (r : Read FeaturedCoverage). read_answer asked r.0) (k.known.reads files asked v agrees)) ∙ k.known.counts files asked v agrees in
    finding_refuses v.coverage.coverage (read_finding asked v) (ap (λ (a : Answer). a.verdict) said)

-- an untiled coverage is read as one
untiled_again : (files : Files) (lib cov : List ℕ) (c : LoadedCoverage) (n : ℕ) (r : Read (Option LoadedTile)) → c.coverage.is_tiled ≡ false
    → (r and_then untiled_or_tiled files lib cov) ≡ (Ok c, n) → (r and_then tables_or_missing (within lib cov)) ≡ (Ok c, n)
untiled_again files lib cov c n (Ok (Some tile), k) alone e = e
untiled_again files lib cov c n (Ok None, k) alone e =
    let tiled : c.coverage.is_tiled ≡ true = tiled_when_read files lib cov k c (ap (λ (r : Read LoadedCoverage). r.0) e) in
    absurd (let x : false ≡ true = sym alone ∙ tiled in cc)
untiled_again files lib cov c n (Err stop, k) alone e = absurd (no_value stop k n c e)

tileref_again : KnownOfSources → (files : Files) (lib cov : List ℕ) (parts : TileParts) (n : ℕ) → HoldsTileParts files lib cov parts
    → n + bytes_in parts.tileref.files ≤ most_loaded → read_tileref files lib n ≡ (Ok parts.tileref, n + bytes_in parts.tileref.files)
tileref_again k files lib cov parts n h few =
    let table = held_is_loaded k.spelled files (tileref_name lib) parts.tileref.grid parts.tileref.files n h.tileref h.tileref_there few in
    let none : tileref_stop parts.tileref.grid ≡ None = (k.known.reading.stops parts.tileref.grid).1 (h.right, h.bounded) in
    rw (table, none) refl

plan_again : KnownOfSources → (files : Files) (lib cov : List ℕ) (parts : TileParts) (n : ℕ) → HoldsTileParts files lib cov parts
    → n + bytes_in parts.plan.files ≤ most_loaded → read_plan files (plan_name lib cov) n ≡ (Ok parts.plan, n + bytes_in parts.plan.files)
plan_again k files lib cov parts n h few =
    let table = held_is_loaded k.spelled files (plan_name lib cov) parts.plan.grid parts.plan.files n h.plan.are h.plan_there few in
    let none : plan_finding parts.plan.grid ≡ None = (k.plans parts.plan.grid).1 h.plan.plan in
    rw (table, none) refl

parts_again : KnownOfSources → (files : Files) (request : MakeRequest) (parts : TileParts) (T : TileTables) → IsTileSource files request parts T
    → (read_parts files request.lib request.cov 0).0 ≡ Ok parts
parts_again k files request parts T s =
    let folder = within request.lib request.cov in
    let n0 = bytes_in parts.coverage.files in
    let n1 = n0 + bytes_in s.held.schema.files in
    let n2 = n1 + bytes_in parts.tileref.files in
    let few = s.held.few in
    let a = untiled_again files request.lib request.cov parts.coverage n0 (read_tile files folder 0) (ap (λ (c : CoverageTables). c.is_tiled) s.untiled)
    (k.held files request.lib request.cov parts.coverage s.held.coverage) in
    let b = k.schema files folder parts.schema n0 s.held.schema in
    let c = tileref_again k files request.lib request.cov parts n1 s.held (omega (arith, few)) in
    let d = plan_again k files request.lib request.cov parts n2 s.held few in
    rw (a, b, c, d) refl

pub source_is_cut : KnownOfSources → SourceIsCut
source_is_cut k files request parts T s =
    let right = s.may_be in
    let names = names_of_faces T.tables parts.plan.grid in
    let serves : plan_refusal T.tables parts.plan.grid (length parts.tileref.grid.rows) ≡ None =
    (k.refusals (primitives_of T.tables) names (length parts.tileref.grid.rows) right.few right.plans.some).1 (right.plans, right.places) in
    record {
      read = parts_again k files request parts T s;
      tables = ap (λ (c : CoverageTables). tile_at c 0) s.untiled;
      agrees = source_unfound k files request parts T s;
      serves = serves;
      fits = s.fits;
      joins = s.joins;
      features_fit = s.features_fit;
    }

-- ---- what is cut is held

-- an untiled coverage and its features that were read are held, and counted
record FeaturedHeld (files : Files) (lib cov : List ℕ) (v : FeaturedCoverage) (n : ℕ) : Type 0 where
  coverage : HoldsCoverage files lib cov v.coverage
  schema : HoldsSchema files (within lib cov) v.schema (bytes_in v.coverage.files)
  sum : n ≡ bytes_in v.coverage.files + bytes_in schema.files

coverage_again : (files : Files) (lib cov : List ℕ) (c : LoadedCoverage) (n : ℕ) (r : Read (Option LoadedTile))
    → (r and_then tables_or_missing (within lib cov)) ≡ (Ok c, n) → (r and_then untiled_or_tiled files lib cov) ≡ (Ok c, n)
coverage_again files lib cov c n (Ok (Some tile), k) e = e
coverage_again files lib cov c n (Ok None, k) e = absurd (no_value _ k n c e)
coverage_again files lib cov c n (Err stop, k) e = absurd (no_value stop k n c e)

featured_held : KnownOfSources → (files : Files) (lib cov : List ℕ) (v : FeaturedCoverage) (n : ℕ) → HoldsBytes files
    → read_untiled_featured files lib cov 0 ≡ (Ok v, n) → FeaturedHeld files lib cov v n
featured_held k files lib cov v n all e =
    let folder = within lib cov in
    let a = steps (read_untiled files lib cov 0) _ v n e in
    let b = steps (read_schema files folder a.1) _ v n a.3 in
    let made : FeaturedCoverage = record { coverage = a.0; schema = b.0 } in
    let read : read_coverage files lib cov 0 ≡ (Ok a.0, a.1) = coverage_again files lib cov a.0 a.1 (read_tile files folder 0) a.2 in
    let holds = k.read files lib cov a.0 a.1 all read in
    let before = bytes_in a.0.files in
    let first : a.1 ≡ before = one_count a.0 a.0 a.1 before (sym read ∙ k.held files lib cov a.0 holds) in
    let s = k.known.schemas files folder b.0 before b.1 all holds.few (subst (λ (m : ℕ). read_schema files folder m ≡ gives b.0 b.1) first b.2) in
    subst (λ (x : FeaturedCoverage). FeaturedHeld files lib cov x n) (value_is made v b.1 n b.3)
    (record { coverage = holds; schema = s.0; sum = sym (one_count made v b.1 n b.3) ∙ s.1 })

-- a table of tiles that was read
record TilerefHeld (files : Files) (lib : List ℕ) (table : LoadedTable) (m k : ℕ) : Type 0 where
  are : AreFilesOf (tileref_name lib) table.grid table.files
  there : AreHeld files table.files
  right : IsTileref table.grid
  bounded : IsBounded table.grid
  sum : k ≡ m + bytes_in table.files

tileref_so : (files : Files) (lib : List ℕ) (x table : LoadedTable) (m n k : ℕ) → x ≡ table → n ≡ k → TilerefHeld files lib x m n
    → TilerefHeld files lib table m k
tileref_so files lib x table m n k e f h = rw (e, f) at h

tileref_goes : (name : List ℕ) (stop : Option TilerefStop) (v table : LoadedTable) (k n : ℕ) → unless_stopped name stop v k ≡ (Ok table, n)
    → (stop ≡ None) × (v ≡ table) × (k ≡ n)
tileref_goes name None v table k n e = (refl, value_is v table k n e, one_count v table k n e)
tileref_goes name (Some stop) v table k n e = absurd (no_value (tileref_stopped name stop) k n table e)

tileref_held : KnownOfSources → (files : Files) (lib : List ℕ) (table : LoadedTable) (m n : ℕ) → HoldsBytes files
    → read_tileref files lib m ≡ (Ok table, n) → TilerefHeld files lib table m n
tileref_held k files lib table m n all e =
    let s = steps (read_table files (tileref_name lib) m) _ table n e in
    let g = tileref_goes (tileref_name lib) (tileref_stop s.0.grid) s.0 table s.1 n s.3 in
    let r = required_table_is k.opened files (tileref_name lib) s.0 m s.1 all s.2 in
    let d = (k.known.reading.stops s.0.grid).0 g.0 in
    tileref_so files lib s.0 table m s.1 n g.1 g.2 (record { are = r.are; there = r.there; right = d.0; bounded = d.1; sum = r.sum })

-- a plan that was read
record PlanHeld (files : Files) (name : List ℕ) (table : LoadedTable) (m k : ℕ) : Type 0 where
  are : ArePlanFiles name table.grid table.files
  there : AreHeld files table.files
  sum : k ≡ m + bytes_in table.files
  most : k ≤ most_loaded

plan_so : (files : Files) (name : List ℕ) (x table : LoadedTable) (m n k : ℕ) → x ≡ table → n ≡ k → PlanHeld files name x m n → PlanHeld files name table m k
plan_so files name x table m n k e f h = rw (e, f) at h

-- what a plan comes to, with the count of bytes
abbrev with_count : Result LoadedTable LoadStop → ℕ → Read LoadedTable
with_count result k = (result, k)

plan_goes : (name : List ℕ) (found : Option Disagreement) (v table : LoadedTable) (k n : ℕ) → with_count (unless_found name found v) k ≡ (Ok table, n)
    → (found ≡ None) × (v ≡ table) × (k ≡ n)
plan_goes name None v table k n e = (refl, value_is v table k n e, one_count v table k n e)
plan_goes name (Some d) v table k n e = absurd (no_value _ k n table e)

plan_held : KnownOfSources → (files : Files) (name : List ℕ) (table : LoadedTable) (m n : ℕ) → HoldsBytes files
    → read_plan files name m ≡ (Ok table, n) → PlanHeld files name table m n
plan_held k files name table m n all e =
    let s = steps (read_table files name m) _ table n e in
    let g = plan_goes name (plan_finding s.0.grid) s.0 table s.1 n s.3 in
    let r = required_table_is k.opened files name s.0 m s.1 all s.2 in
    let plan = (k.plans s.0.grid).0 g.0 in
    plan_so files name s.0 table m s.1 n g.1 g.2 (record { are = record { are = r.are; plan = plan }; there = r.there; sum = r.sum; most = r.most })

-- all that was read
parts_held : KnownOfSources → (files : Files) (lib cov : List ℕ) (parts : TileParts) → HoldsBytes files → (read_parts files lib cov 0).0 ≡ Ok parts
    → HoldsTileParts files lib cov parts
parts_held k files lib cov parts all h =
    let last = (read_parts files lib cov 0).1 in
    let s1 = steps (read_untiled_featured files lib cov 0) _ parts last (both_of (read_parts files lib cov 0) parts h) in
    let s2 = steps (read_tileref files lib s1.1) _ parts last s1.3 in
    let s3 = steps (read_plan files (plan_name lib cov) s2.1) _ parts last s2.3 in
    let f = featured_held k files lib cov s1.0 s1.1 all s1.2 in
    let t = tileref_held k files lib s2.0 s1.1 s2.1 all s2.2 in
    let p = plan_held k files (plan_name lib cov) s3.0 s2.1 s3.1 all s3.2 in
    let one = f.sum in
    let two = t.sum in
    let three = p.sum in
    let most = p.most in
    subst (HoldsTileParts files lib cov) (value_is (tile_parts s1.0 s2.0 s3.0) parts s3.1 last s3.3) (record {
      coverage = f.coverage;
      schema = f.schema;
      tileref = t.are;
      right = t.right;
      bounded = t.bounded;
      plan = p.are;
      tileref_there = t.there;
      plan_there = p.there;
      few = omega (arith, one, two, three, most);
    })

pub cut_is_source : KnownOfSources → CutIsSource
cut_is_source k files request parts T all names cut =
    let reading = k.known.reading in
    let folder = within request.lib request.cov in
    let r = parts_read reading.opened files request.lib request.cov parts all cut.read in
    let none = unfound folder (featured_in parts) cut.agrees in
    let agrees : HaveColumns parts.coverage.coverage × LibraryAgrees (library_of parts.coverage.coverage) =
    (reading.check files request.lib request.cov parts.coverage r.coverage.loaded all r.coverage.read).0 none.coverage in
    let own : TileTables = record { first = 0; tables = r.coverage.tile.tables } in
    let same : own ≡ T = some_tables own T (ap (λ (c : LoadedCoverage). tile_at c.coverage 0) r.coverage.is ∙ cut.tables) in
    record {
      held = parts_held k files request.lib request.cov parts all cut.read;
      untiled = sym (ap (λ (c : LoadedCoverage). c.coverage) r.coverage.is) ∙ ap untiled_coverage same;
      columns = agrees.0;
      may_be = tileable k.known files request parts T all names cut;
      features = (reading.features files folder r.schema.before r.schema.behind parts.schema r.schema.is).0 none.features;
      joins = cut.joins;
      fits = cut.fits;
      features_fit = cut.features_fit;
    }
