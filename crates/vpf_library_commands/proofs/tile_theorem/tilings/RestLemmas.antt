-- What the features of a source lacked isn't there where its files are made, but for thematic indexes: of these it is asked.
use Rattle.std.proofs.Common.{◌≡◌, ◌≢◌, ◌∙◌, ℕ, true, false, List, [], ◌∷◌, ◌++◌, Some, None, Ok, inl, inr, refl, sym, ap, subst, arith}
use Rattle.std.specs.Prelude.{codes}
use Rattle.std.specs.List.{AllByRecursion}
use Rattle.vpf_source.specs.Files.{Files, HoldsBytes}
use Rattle.vpf_source.specs.Making.{with_all}
use Rattle.vpf_source.specs.declared.file.File.{File}
use Rattle.vpf_table.specs.Grid.{Grid}
use Rattle.vpf_table.specs.Reading.{table_of}
use Rattle.vpf_prims.specs.Coverages.{CoverageTables}
use Rattle.vpf_prims.specs.Reading.{primitives_of}
use Rattle.vpf_prims.specs.Tables.{TileTables}
use Rattle.vpf_library_files.specs.Inner.Loading.FileLaws.{both_held}
use Rattle.vpf_library_files.specs.Inner.Loading.HeldLaws.{SpelledAreOpened}
use Rattle.vpf_library_files.specs.Loading.Holding.{AreCoverageFiles, AreFilesOf, AreHeld, bytes_in}
use Rattle.vpf_library_files.specs.Loading.Loading.{tileref_name, within}
use Rattle.vpf_library_files.specs.TableFiles.Adding.{files_made}
use Rattle.vpf_feature_files.specs.Inner.Laws.{HeldSchemaIsRead}
use Rattle.vpf_feature_files.specs.SchemaRows.Items.{own_file}
use Rattle.vpf_feature_files.specs.SchemaRows.Joins.{feature_items}
use Rattle.vpf_feature_files.specs.Schemas.{Schema, joins_of, table_in_file}
use Rattle.vpf_feature_writing.specs.FeatureReading.Laws.{Lacks}
use Rattle.vpf_feature_writing.specs.Inner.FeatureReading.EndingLaws.{EndsIn, NamesFeatures, edges_end, ends_within, feature_ends, items_name, other_ends}
use Rattle.vpf_feature_writing.specs.Inner.FeatureReading.Names.{AreWritten, HaveOtherNames, ReadLacksTables, WrittenLacksEdges, WrittenLacksTables}
use Rattle.vpf_tiler.specs.Inner.TiledFeatures.Laws.{OwnNamesAreFree}
use Rattle.vpf_tiler.specs.Inner.TiledFiles.StemLaws.{within_within}
use Rattle.vpf_library_commands.specs.declared.requesting.MakeRequest.{MakeRequest}
use Rattle.vpf_library_commands.specs.Tile.{TileParts}
use Rattle.vpf_library_commands.specs.Folders.{HoldsExactly}
use Rattle.vpf_library_commands.specs.Inner.TileTheorem.Tilings.Laws.{RestIsLacked}
use Rattle.vpf_library_commands.specs.TileTheorem.Tilings.Cutting.{IsCutFrom, cut_features, cut_files, cut_plan, cut_tables, files_in_made}
use Rattle.vpf_library_commands.specs.TileTheorem.Tilings.Sources.{IsTileSource}
use Rattle.vpf_library_commands.specs.TileTheorem.Tilings.Tilings.{HasNames, StandsAlone}
use Rattle.vpf_library_commands.proofs.tile_theorem.tilings.MadeLemmas.{exactly}
use Rattle.vpf_library_commands.proofs.tile_theorem.tilings.TilingLemmas.{features_come_to}

-- what is known of the names of files that are made
pub record KnownOfNames : Type 0 where
  pub read : ReadLacksTables
  pub tables : WrittenLacksTables
  pub edges : WrittenLacksEdges
  pub free : OwnNamesAreFree
  pub schema : HeldSchemaIsRead
  pub opened : SpelledAreOpened

-- ---- what the source holds

-- a table that is held under its name
record IsHeldTable (held : Files) (name : List ℕ) (grid : Grid) : Type 0 where
  bytes : List ℕ
  there : held name ≡ Some bytes
  read : table_of bytes ≡ Ok grid

table_held : SpelledAreOpened → (held : Files) (name : List ℕ) (grid : Grid) (files : List File) → AreFilesOf name grid files → AreHeld held files
    → IsHeldTable held name grid
table_held k held name grid files (inl p) all = record {
  bytes = p.bytes;
  there = (subst (AreHeld held) p.are all).0;
  read = k.again p.bytes None grid (k.opened p.bytes None grid p.opened);
}
table_held k held name grid files (inr p) all = record {
  bytes = p.bytes;
  there = (subst (AreHeld held) p.are all).0;
  read = k.again p.bytes (Some p.index) grid (k.opened p.bytes (Some p.index) grid p.opened);
}

-- the edges of an untiled coverage in its folder
record HasEdges (held : Files) (folder : List ℕ) : Type 0 where
  grid : Grid
  table : IsHeldTable held (within folder (codes "edg")) grid

edges_held : SpelledAreOpened → (held : Files) (lib cov : List ℕ) (c : CoverageTables) (files : List File) → AreCoverageFiles lib cov c files → AreHeld held files
    → c.is_tiled ≡ false → HasEdges held (within lib cov)
edges_held k held lib cov c files (inl u) all untiled =
    let parts = both_held held u.are.edg (u.are.fac ++ (u.are.rng ++ (u.are.cnd ++ u.are.end))) (subst (AreHeld held) u.are.are all) in
    record { grid = u.tables.edg; table = table_held k held (within (within lib cov) (codes "edg")) u.tables.edg u.are.edg u.are.edg_is parts.0 }
edges_held k held lib cov c files (inr t) all untiled =
    let tiled : c.is_tiled ≡ true = ap (λ (x : CoverageTables). x.is_tiled) t.is in
    absurd (let e : false ≡ true = sym untiled ∙ tiled in cc)

-- ---- what is made

-- the files that are made of a source, and the folder that holds exactly these
record IsMadeOf (after : Files) (request : MakeRequest) (parts : TileParts) (T : TileTables) : Type 0 where
  written : AreWritten (within request.lib request.cov) request.cov parts.schema (files_in_made (cut_features request parts))
  exact : HoldsExactly after request.out (files_made (cut_tables request parts T) ++ files_in_made (cut_features request parts))

source_made : KnownOfNames → (files after : Files) (request : MakeRequest) (parts : TileParts) (T : TileTables) → HoldsBytes files
    → IsTileSource files request parts T → IsCutFrom files request parts T → StandsAlone files request.out (cut_files request parts T)
    → with_all (cut_files request parts T) (Some files) ≡ Some after → IsMadeOf after request parts T
source_made k files after request parts T all s cut alone made = record {
  written = record {
    read = record {
      held = files;
      bytes = all;
      before = bytes_in parts.coverage.files;
      behind = _;
      read = k.schema files (within request.lib request.cov) parts.schema (bytes_in parts.coverage.files) s.held.schema;
    };
    files_are = features_come_to files request parts T cut;
  };
  exact = exactly files after request.out (files_made (cut_tables request parts T) ++ files_in_made (cut_features request parts)) alone made;
}

-- ---- feature tables that weren't there

-- what is so of an item whose feature table wasn't there
abbrev ItemSo : List ℕ → Schema → (List ℕ → Type 0) → Type 0
ItemSo item S P = (file : List ℕ) → own_file item ≡ Some file → table_in_file S.tables file ≡ None → P file

-- its file isn't the table of tiles, which is there
no_tileref : (files : Files) (lib cov file bytes : List ℕ) → cov ≢ [] → files (tileref_name lib) ≡ Some bytes → Lacks files (within lib cov) file
    → within cov file ≢ codes "tileref/tileref.aft"
no_tileref files lib cov file bytes named there lacks e =
    let place : within (within lib cov) file ≡ tileref_name lib =
    sym (within_within lib cov file named) ∙ ap (within lib) e ∙ within_within lib (codes "tileref") (codes "tileref.aft") (λ h. cc h) in
    cc (sym there ∙ ap files (sym place) ∙ lacks)

table_lacked : KnownOfNames → (files after : Files) (request : MakeRequest) (parts : TileParts) (T : TileTables) (item : List ℕ) → HasNames request
    → IsTileSource files request parts T → IsMadeOf after request parts T → NamesFeatures item
    → ItemSo item parts.schema (Lacks files (within request.lib request.cov))
    → ItemSo item parts.schema (HaveOtherNames (files_in_made (cut_features request parts)) request.cov)
    → ItemSo item parts.schema (Lacks after (within request.out request.cov))
table_lacked k files after request parts T item names s m is absent others file named none =
    let tileref = table_held k.opened files (tileref_name request.lib) parts.tileref.grid parts.tileref.files s.held.tileref s.held.tileref_there in
    k.free after request.out request.cov T.tables (primitives_of T.tables) (cut_plan parts T) parts.tileref.grid (files_in_made (cut_features request parts)) file 116
    names.cov names.named s.held.right (record { item = item; named = named }) (feature_ends item file is named) (λ e. omega (arith, e))
    (no_tileref files request.lib request.cov file tileref.bytes names.named tileref.there (absent file named none)) m.exact (others file named none)

tables_lacked : KnownOfNames → (files after : Files) (request : MakeRequest) (parts : TileParts) (T : TileTables) (items : List (List ℕ)) → HasNames request
    → IsTileSource files request parts T → IsMadeOf after request parts T → AllByRecursion NamesFeatures items
    → AllByRecursion (λ item. ItemSo item parts.schema (Lacks files (within request.lib request.cov))) items
    → AllByRecursion (λ item. ItemSo item parts.schema (HaveOtherNames (files_in_made (cut_features request parts)) request.cov)) items
    → AllByRecursion (λ item. ItemSo item parts.schema (Lacks after (within request.out request.cov))) items
tables_lacked k files after request parts T [] names s m are absent others = tt
tables_lacked k files after request parts T (item ∷ items) names s m are absent others = (
  table_lacked k files after request parts T item names s m are.0 absent.0 others.0,
  tables_lacked k files after request parts T items names s m are.1 absent.1 others.1,
)

-- ---- the edges of an untiled coverage

edges_lacked : KnownOfNames → (files after : Files) (request : MakeRequest) (parts : TileParts) (T : TileTables) → HasNames request
    → IsTileSource files request parts T → (m : IsMadeOf after request parts T) → m.written.read.held ≡ files
    → after (within (within request.out request.cov) (codes "edg")) ≡ None
edges_lacked k files after request parts T names s m same =
    let source = within request.lib request.cov in
    let e = edges_held k.opened files request.lib request.cov parts.coverage.coverage parts.coverage.files s.held.coverage.are s.held.coverage.there
    (ap (λ (c : CoverageTables). c.is_tiled) s.untiled) in
    let there : m.written.read.held (within source (codes "edg")) ≡ Some e.table.bytes =
    subst (λ (f : Files). f (within source (codes "edg")) ≡ Some e.table.bytes) (sym same) e.table.there in
    let tileref : EndsIn 116 (codes "tileref/tileref.aft") = record { front = codes "tileref/tileref.af"; is = refl } in
    k.free after request.out request.cov T.tables (primitives_of T.tables) (cut_plan parts T) parts.tileref.grid (files_in_made (cut_features request parts))
    (codes "edg") 103 names.cov names.named s.held.right (record { item = codes "edg"; named = refl }) edges_end (λ h. omega (arith, h))
    (other_ends 103 116 (within request.cov (codes "edg")) (codes "tileref/tileref.aft") (ends_within request.cov (codes "edg") 103 edges_end) tileref
    (λ h. omega (arith, h))) m.exact
    (k.edges source request.cov parts.schema (files_in_made (cut_features request parts)) m.written e.table.bytes e.grid there e.table.read)

pub rest_lacked : KnownOfNames → RestIsLacked
unfolding source_made
rest_lacked k files after request parts T all names s cut alone made lacks =
    let m = source_made k files after request parts T all s cut alone made in
    let source = within request.lib request.cov in
    record {
      tables = tables_lacked k files after request parts T (feature_items (joins_of parts.schema.fcs)) names s m (items_name (joins_of parts.schema.fcs))
          (k.read source parts.schema m.written.read)
          (k.tables source request.cov parts.schema (files_in_made (cut_features request parts)) m.written);
      indexes = lacks;
      edges = edges_lacked k files after request parts T names s m refl;
    }
