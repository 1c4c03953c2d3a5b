-- A tiled library that is made agrees, and its boundary cycles are those of the coverage.
use Rattle.std.proofs.Common.{[], ◌≡◌, ℕ, false, true, List, ◌++◌, ◌≤◌, arith, length, Option, None, Some, Ok, Err, refl, sym, ap, ◌∙◌, subst, append-nil}
use Rattle.std.specs.Prelude.{IsOk, codes}
use Rattle.vpf_base.specs.Bytes.{IsBytes}
use Rattle.vpf_source.specs.Files.{Files, HoldsBytes}
use Rattle.vpf_source.specs.Making.{with_all}
use Rattle.vpf_source.specs.declared.file.File.{File}
use Rattle.vpf_base.specs.declared.orders.Order.{Order}
use Rattle.vpf_table.specs.Canonical.{IsWritable, in_order}
use Rattle.vpf_table.specs.Grid.{Grid}
use Rattle.vpf_table.specs.Reading.{table_of}
use Rattle.vpf_table.specs.Spelling.{IsTable}
use Rattle.vpf_table.specs.declared.limit.Limit.{Limit as Passed}
use Rattle.vpf_darts.specs.declared.darts.TileDart.{TileDart}
use Rattle.vpf_darts.specs.Listings.{numbers_of}
use Rattle.vpf_findings.specs.Inner.FirstLaws.{option_map-none}
use Rattle.vpf_prims.specs.Coverages.{tile_at}
use Rattle.vpf_prims.specs.Libraries.{library_of}
use Rattle.vpf_prims.specs.Primitives.{Library}
use Rattle.vpf_prims.specs.Reading.{PrimitiveTables, primitives_of}
use Rattle.vpf_prims.specs.Tables.{TileTables}
use Rattle.vpf_library_files.specs.Inner.Tileref.Laws.{StopsDecide}
use Rattle.vpf_library_files.specs.Loading.Holding.{LacksOfTile, bytes_in}
use Rattle.vpf_library_files.specs.Loading.Loading.{Read, most_loaded, within}
use Rattle.vpf_tiling.specs.declared.tileable.refusals.Refusal.{Refusal}
use Rattle.vpf_library_files.specs.TableFiles.Adding.{files_made, made_of_tables, unless_limited}
use Rattle.vpf_tiling.specs.Plans.{IsTileable}
use Rattle.vpf_library_commands.specs.TilerMaking.{made_result, tiled, tiled_with_features, unless_keyed, unless_refused}
use Rattle.vpf_tiler.specs.Writable.{AreWritable, HaveFewRows}
use Rattle.vpf_library_commands.specs.TilerLaws.{AreTilesGiven, MadeAgrees, MadeIsTileable}
use Rattle.vpf_library_commands.specs.Folders.{HoldsExactly}
use Rattle.vpf_library_commands.specs.Tilings.{AreInFolder, IsHeldInTiles, Tiling, tiling_of}
use Rattle.vpf_tiler.specs.Inner.TiledFeatures.Laws.{AreMadeOf, IsReadWithFeatures, MadeWithFeatures, NoSchemaTableIsMade, StandAlone}
use Rattle.vpf_tiler.specs.Inner.TiledFeatures.Folders.{LacksTheRest}
use Rattle.vpf_features.specs.FeatureAgreement.Agreeing.{FeaturesDecide}
use Rattle.vpf_feature_writing.specs.FeatureReading.Rebuilt.{rebuilt}
use Rattle.vpf_feature_writing.specs.Keys.{numbered_row}
use Rattle.vpf_feature_writing.specs.Making.{Made, features_made, made_then}
use Rattle.vpf_trace.specs.Tracing.{IsTrace}
use Rattle.vpf_replies.specs.declared.verdict.Verdict.TheVariants.{Done, Refused}
use Rattle.vpf_replies.specs.Answer.{Answer, done}
use Rattle.vpf_replies.specs.Listings.{listing_text}
use Rattle.vpf_feature_files.specs.Holding.{HoldsSchema}
use Rattle.vpf_feature_files.specs.Inner.Laws.{ReadSchemaIsHeld}
use Rattle.vpf_feature_files.specs.Schemas.{Schema, joins_of}
use Rattle.vpf_features.specs.Finding.{Named}
use Rattle.vpf_library_commands.specs.Reading.{FeaturedCoverage, no_features}
use Rattle.vpf_library_commands.specs.declared.requesting.MakeRequest.{MakeRequest}
use Rattle.vpf_library_commands.specs.declared.checking.CheckRequest.{CheckRequest}
use Rattle.vpf_library_commands.specs.Agreeing.{AgreeingIsRead, CheckCounts, CoverageDecides, IsAgreeing}
use Rattle.vpf_library_commands.specs.Check.{read_finding}
use Rattle.vpf_library_commands.specs.Trace.{HasTraceAnswer, IsReadTrace, IsTraceAnswer, IsTracedAnswer, TraceDecides}
use Rattle.vpf_library_commands.specs.Tile.{TileParts}
use Rattle.vpf_library_commands.specs.TileTheorem.Tilings.Cutting.{IsCutFrom, cut_features, cut_files, cut_plan, cut_tables, files_in_made}
use Rattle.vpf_library_commands.specs.TileTheorem.Tilings.Tilings.{AnswersTiling, HasNames, HoldsTiled, HoldsTiling, StandsAlone, made_request, with_rebuilt}
use Rattle.vpf_library_commands.proofs.tile_theorem.tilings.MadeLemmas.{exactly, few_within}
use Rattle.vpf_library_commands.proofs.tile_theorem.tilings.ReadLemmas.{grid_few, grid_writable}
use Rattle.vpf_library_commands.specs.Inner.TileTheorem.Tilings.ReadLaws.{AreReadGrids, OpenedIsRead}
use Rattle.vpf_library_commands.proofs.tile_theorem.tilings.SourceLemmas.{IsSource, source}

-- what is known of tables, coverages and features that are read
pub record KnownOfReading : Type 0 where
  pub opened : OpenedIsRead
  pub spelled : (bytes : List ℕ) (g : Grid) → IsBytes bytes → table_of bytes ≡ Ok g → IsTable g bytes
  pub writable : (bytes : List ℕ) (g : Grid) (order : Order) → IsBytes bytes → table_of bytes ≡ Ok g → IsWritable (in_order order g)
  pub stops : StopsDecide
  pub check : CoverageDecides
  pub features : FeaturesDecide

-- .. and of tilings
pub record Known : Type 0 where
  pub reading : KnownOfReading
  pub counts : CheckCounts
  pub reads : AgreeingIsRead
  pub answers : HasTraceAnswer
  pub traces : TraceDecides
  pub tileable : MadeIsTileable
  pub made : MadeWithFeatures
  pub no_schema : NoSchemaTableIsMade
  pub schemas : ReadSchemaIsHeld

tables_written : KnownOfReading → (T : PrimitiveTables) → AreReadGrids T → AreWritable T
tables_written k T g = record {
  edg = grid_writable k.writable T.edg g.edg;
  fac = grid_writable k.writable T.fac g.fac;
  rng = grid_writable k.writable T.rng g.rng;
  cnd = grid_writable k.writable T.cnd g.cnd;
  end = λ grid e. grid_writable k.writable grid (g.end grid e);
}

tables_few : KnownOfReading → (T : PrimitiveTables) → AreReadGrids T → HaveFewRows T
tables_few k T g = record {
  edg = grid_few k.spelled T.edg g.edg;
  fac = grid_few k.spelled T.fac g.fac;
  rng = grid_few k.spelled T.rng g.rng;
  cnd = grid_few k.spelled T.cnd g.cnd;
  end = λ grid e. grid_few k.spelled grid (g.end grid e);
}

-- what was read is what tiling is given
given : KnownOfReading → (parts : TileParts) (T : PrimitiveTables) → IsSource T parts → AreTilesGiven T parts.tileref.grid
given k parts T s = record {
  columns = s.columns;
  writable = tables_written k T s.grids;
  few = tables_few k T s.grids;
  well_formed = s.well_formed;
  right = s.tileref;
  bounded = s.bounded;
  tiles = grid_writable k.writable parts.tileref.grid s.tileref_grid;
}

-- and tiling comes to the files of its tables
pub comes_to : (files : Files) (request : MakeRequest) (parts : TileParts) (T : TileTables) → IsCutFrom files request parts T
    → tiled request.cov T.tables parts.plan.grid parts.tileref.grid ≡ Ok (files_made (cut_tables request parts T))
comes_to files request parts T cut =
    ap (λ (r : Option Refusal). unless_refused r (made_result (made_of_tables (cut_tables request parts T)))) cut.serves
    ∙ ap (λ (l : Option (List ℕ × Passed)). made_result (unless_limited (cut_tables request parts T) l)) cut.fits

made_fit : (made : Made) → IsOk made → made ≡ Ok (files_in_made made)
made_fit (Ok files) fit = refl
made_fit (Err error) fit = absurd (let e : false ≡ true = fit in cc)

-- so do its features
pub features_come_to : (files : Files) (request : MakeRequest) (parts : TileParts) (T : TileTables) → IsCutFrom files request parts T
    → cut_features request parts ≡ Ok (files_in_made (cut_features request parts))
features_come_to files request parts T cut = made_fit (cut_features request parts) cut.features_fit

-- so tiling comes to both
pub both_come_to : (files : Files) (request : MakeRequest) (parts : TileParts) (T : TileTables) → IsCutFrom files request parts T
    → tiled_with_features request.cov T.tables parts.schema parts.plan.grid parts.tileref.grid
    ≡ Ok (files_made (cut_tables request parts T) ++ files_in_made (cut_features request parts))
both_come_to files request parts T cut =
    let own : Made = made_of_tables (cut_tables request parts T) in
    let features : Made = cut_features request parts in
    ap (λ (r : Option Refusal). unless_refused r (unless_keyed (numbered_row (joins_of parts.schema.fcs)) (made_result (made_then own features)))) cut.serves
    ∙ ap (λ (k : Option ℕ). unless_keyed k (made_result (made_then own features))) cut.joins
    ∙ ap (λ (l : Option (List ℕ × Passed)). made_result (made_then (unless_limited (cut_tables request parts T) l) features)) cut.fits
    ∙ ap (λ (m : Made). made_result (made_then (Ok (files_made (cut_tables request parts T))) m)) (features_come_to files request parts T cut)

-- the folder that is asked for holds exactly these
in_folder : (files after : Files) (request : MakeRequest) (parts : TileParts) (T : TileTables) → HasNames request
    → StandsAlone files request.out (cut_files request parts T) → with_all (cut_files request parts T) (Some files) ≡ Some after
    → LacksTheRest after request.out request.cov parts.schema
    → StandAlone after request.out request.cov parts.schema (files_made (cut_tables request parts T)) (files_in_made (cut_features request parts))
in_folder files after request parts T names alone made lacks =
    let own : List File = files_made (cut_tables request parts T) ++ files_in_made (cut_features request parts) in
    record {
      folder_text = names.out;
      named = names.named;
      exactly = exactly files after request.out own alone made;
      few = few_within files request.out own alone;
      lacks = lacks;
    }

source_read : KnownOfReading → (files : Files) (request : MakeRequest) (parts : TileParts) (T : TileTables) → HoldsBytes files
    → IsCutFrom files request parts T → IsSource T.tables parts
source_read k files request parts T all cut = source k.opened k.stops k.check k.features files request parts T all cut

-- and they are what is made of the source
made_of : KnownOfReading → (files : Files) (request : MakeRequest) (parts : TileParts) (T : TileTables) → HoldsBytes files → IsCutFrom files request parts T
    → AreMadeOf request.cov T.tables parts.plan.grid parts.tileref.grid parts.schema (files_made (cut_tables request parts T))
    (files_in_made (cut_features request parts))
made_of k files request parts T all cut =
    let s = source_read k files request parts T all cut in
    record {
      given = given k parts T.tables s;
      tiles_are = comes_to files request parts T cut;
      source = s.folder;
      read = s.read;
      agree = s.agree;
      features_are = features_come_to files request parts T cut;
    }

-- what `trace` says of a coverage that agrees: its listing
record IsTraced (held : Files) (request : CheckRequest) (read : FeaturedCoverage) : Type 0 where
  cycles : List (List TileDart)
  are : IsTrace (library_of read.coverage.coverage) (numbers_of cycles)
  said : IsTraceAnswer held request (done (listing_text cycles))

traced : Known → (held : Files) (request : CheckRequest) (read : FeaturedCoverage) → HoldsBytes held → IsAgreeing held request read → IsTraced held request read
traced k held request read bytes agrees =
    let some = k.answers held request bytes in
    let at : IsReadTrace request (Ok read) some.0 =
    subst (λ (r : Read FeaturedCoverage). IsReadTrace request r.0 some.0) (k.reads held request read agrees) some.1 in
    by some.0 (read_finding request read) at ((k.traces held request some.0 bytes some.1).1 (read, agrees)) some.1
  where
    by : (answer : Answer) (f : Option Named) → IsTracedAnswer read.coverage.coverage f answer → answer.verdict ≡ Done → IsTraceAnswer held request answer
        → IsTraced held request read
    by answer None at done said = record { cycles = at.0; are = at.1; said = subst (λ (a : Answer). IsTraceAnswer held request a) at.2 said }
    by answer (Some (name, d)) at done said = absurd (let e : Refused ≡ Done = sym (ap (λ (a : Answer). a.verdict) at) ∙ done in cc)

-- so the folder holds the coverage in tiles with its features
held_with : Known → (files after : Files) (request : MakeRequest) (parts : TileParts) (T : TileTables) → HoldsBytes files → HasNames request
    → IsCutFrom files request parts T → StandsAlone files request.out (cut_files request parts T)
    → with_all (cut_files request parts T) (Some files) ≡ Some after → LacksTheRest after request.out request.cov parts.schema
    → IsReadWithFeatures (tiling_of T.tables parts.plan.grid parts.tileref.grid) request.cov after request.out parts.schema
held_with k files after request parts T all names cut alone made lacks =
    k.made request.cov T.tables parts.plan.grid parts.tileref.grid parts.schema (files_made (cut_tables request parts T))
    (files_in_made (cut_features request parts)) after request.out names.cov (made_of k.reading files request parts T all cut)
    (in_folder files after request parts T names alone made lacks)

-- which agree, as `check` is asked
agreeing : (w : Tiling) (after : Files) (request : MakeRequest) (S : Schema) (held : IsReadWithFeatures w request.cov after request.out S)
    → HoldsSchema after (within request.out request.cov) (rebuilt S) (bytes_in held.tiles.loaded.files)
    → IsAgreeing after (made_request request) (with_rebuilt held.tiles.loaded S)
agreeing w after request S held featured = record {
  held = held.tiles.holds;
  columns = held.tiles.columns;
  rows = held.tiles.agrees;
  featured = featured;
  features = held.agree;
}

-- no files of features are made
none_made : (request : MakeRequest) (parts : TileParts) (T : TileTables) → parts.schema ≡ no_features
    → files_made (cut_tables request parts T) ++ files_in_made (cut_features request parts) ≡ files_made (cut_tables request parts T)
none_made request parts T none =
    ap (λ (S : Schema). files_made (cut_tables request parts T) ++ files_in_made (features_made request.cov S)) none
    ∙ append-nil (files_made (cut_tables request parts T))

-- of a coverage without features the folder holds none
none_held : NoSchemaTableIsMade → (files after : Files) (request : MakeRequest) (parts : TileParts) (T : TileTables) → HasNames request
    → StandsAlone files request.out (cut_files request parts T) → with_all (cut_files request parts T) (Some files) ≡ Some after → parts.schema ≡ no_features
    → (before : ℕ) → before ≤ most_loaded → HoldsSchema after (within request.out request.cov) no_features before
none_held no_schema files after request parts T names alone made none before few =
    let own : List File = files_made (cut_tables request parts T) in
    let both : List File = own ++ files_in_made (cut_features request parts) in
    let exact : HoldsExactly after request.out own = subst (HoldsExactly after request.out) (none_made request parts T none) (exactly files after request.out both alone made) in
    let absent = no_schema after request.out request.cov T.tables (primitives_of T.tables) (cut_plan parts T) parts.tileref.grid names.named exact in
    record {
      found = [];
      files = [];
      are = record { fcs = []; features = []; are = refl; fcs_are = refl; features_are = refl; tables = refl };
      there = tt;
      few = omega (arith, few);
      own = λ e. absent;
      items = tt;
    }

-- the plan serves
pub tileable : Known → (files : Files) (request : MakeRequest) (parts : TileParts) (T : TileTables) → HoldsBytes files → HasNames request
    → IsCutFrom files request parts T → IsTileable (primitives_of T.tables) (cut_plan parts T) (length parts.tileref.grid.rows)
tileable k files request parts T all names cut =
    let made = made_of k.reading files request parts T all cut in
    k.tileable request.cov T.tables parts.plan.grid parts.tileref.grid (files_made (cut_tables request parts T)) names.cov made.given made.tiles_are

-- of a coverage without features the files that are made hold the tiled library, which agrees
pub tilings_held : Known → (files after : Files) (request : MakeRequest) (parts : TileParts) (T : TileTables) → HoldsBytes files → HasNames request
    → IsCutFrom files request parts T → StandsAlone files request.out (cut_files request parts T)
    → with_all (cut_files request parts T) (Some files) ≡ Some after → LacksTheRest after request.out request.cov parts.schema
    → parts.schema ≡ no_features
    → HoldsTiled after (made_request request) (primitives_of T.tables) (cut_plan parts T) (length parts.tileref.grid.rows) parts.schema
tilings_held k files after request parts T all names cut alone made lacks none =
    let held = held_with k files after request parts T all names cut alone made lacks in
    let before = bytes_in held.tiles.loaded.files in
    let empty = none_held k.no_schema files after request parts T names alone made none before held.tiles.holds.few in
    let featured = subst (λ (S : Schema). HoldsSchema after (within request.out request.cov) (rebuilt S) before) (sym none) empty in
    record {
      may_be = tileable k files request parts T all names cut;
      loaded = held.tiles.loaded;
      agrees = agreeing (tiling_of T.tables parts.plan.grid parts.tileref.grid) after request parts.schema held featured;
      library = held.tiles.says;
    }

-- and its boundary cycles are those of the coverage, renamed; so `check` and `trace` answer
pub tilings_answered : Known → (files after : Files) (request : MakeRequest) (parts : TileParts) (T : TileTables) → HoldsBytes files → HoldsBytes after
    → HasNames request
    → IsCutFrom files request parts T → StandsAlone files request.out (cut_files request parts T)
    → with_all (cut_files request parts T) (Some files) ≡ Some after → LacksTheRest after request.out request.cov parts.schema
    → AnswersTiling after (made_request request) (primitives_of T.tables) (cut_plan parts T) (length parts.tileref.grid.rows) parts.schema
tilings_answered k files after request parts T all bytes names cut alone made lacks =
    let held = held_with k files after request parts T all names cut alone made lacks in
    let read : FeaturedCoverage = with_rebuilt held.tiles.loaded parts.schema in
    let featured = k.schemas after (within request.out request.cov) (rebuilt parts.schema) (bytes_in held.tiles.loaded.files) held.behind bytes
    held.tiles.holds.few held.read in
    let agrees : IsAgreeing after (made_request request) read =
    agreeing (tiling_of T.tables parts.plan.grid parts.tileref.grid) after request parts.schema held featured.0 in
    let trace = traced k after (made_request request) read bytes agrees in
    record {
      holds = record {
        may_be = tileable k files request parts T all names cut;
        loaded = held.tiles.loaded;
        agrees = agrees;
        library = held.tiles.says;
        cycles = trace.cycles;
        are = (held.cycles (numbers_of trace.cycles)).0 trace.are;
      };
      checked = k.counts after (made_request request) read agrees;
      traced = trace.said;
    }

pub tilings_agree : Known → (files after : Files) (request : MakeRequest) (parts : TileParts) (T : TileTables) → HoldsBytes files → HoldsBytes after
    → HasNames request
    → IsCutFrom files request parts T → StandsAlone files request.out (cut_files request parts T)
    → with_all (cut_files request parts T) (Some files) ≡ Some after → LacksTheRest after request.out request.cov parts.schema
    → HoldsTiling after (made_request request) (primitives_of T.tables) (cut_plan parts T) (length parts.tileref.grid.rows) parts.schema
tilings_agree k files after request parts T all bytes names cut alone made lacks =
    (tilings_answered k files after request parts T all bytes names cut alone made lacks).holds

-- ---- a coverage without features

-- a coverage in tiles has no edges of its own
no_edges : (w : Tiling) (cov : List ℕ) (after : Files) (folder : List ℕ) (held : IsHeldInTiles w cov after folder)
    → after (within (within folder cov) (codes "edg")) ≡ None
no_edges w cov after folder held =
    let none : tile_at held.loaded.coverage 0 ≡ None =
    option_map-none (λ (T : TileTables). primitives_of T.tables) (tile_at held.loaded.coverage 0) (ap (λ (L : Library). L.tile 0) held.says) in
    subst (λ (T : Option TileTables). LacksOfTile after (within folder cov) T) none held.holds.own

-- so nothing is lacked
pub none_lacked : KnownOfReading → MadeAgrees → (files after : Files) (request : MakeRequest) (parts : TileParts) (T : TileTables) → HoldsBytes files
    → HasNames request → IsCutFrom files request parts T → StandsAlone files request.out (cut_files request parts T)
    → with_all (cut_files request parts T) (Some files) ≡ Some after → parts.schema ≡ no_features
    → LacksTheRest after request.out request.cov parts.schema
none_lacked k accepted files after request parts T all names cut alone made none =
    let own : List File = files_made (cut_tables request parts T) in
    let both : List File = own ++ files_in_made (cut_features request parts) in
    let same : both ≡ own = none_made request parts T none in
    let tables : AreInFolder after request.out request.cov own = record {
      folder_text = names.out;
      named = names.named;
      exactly = subst (HoldsExactly after request.out) same (exactly files after request.out both alone made);
      few = subst (λ (made : List File). bytes_in made ≤ most_loaded) same (few_within files request.out both alone);
    } in
    let held = accepted request.cov T.tables parts.plan.grid parts.tileref.grid own names.cov
    (given k parts T.tables (source_read k files request parts T all cut)) (comes_to files request parts T cut) after request.out tables in
    subst (LacksTheRest after request.out request.cov) (sym none) (record {
      tables = tt;
      indexes = tt;
      edges = no_edges (tiling_of T.tables parts.plan.grid parts.tileref.grid) request.cov after request.out held;
    })
