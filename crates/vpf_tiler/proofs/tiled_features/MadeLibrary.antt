-- A tiled library that is made with the features of its coverage holds both.
use Rattle.std.proofs.Common.{[], ◌≡◌, ◌+◌, ◌≤◌, ℕ, List, ◌++◌, map, Option, None, Some, Ok, sym, ap, subst, ◌∙◌, arith}
use Rattle.std.specs.List.{AllByRecursion}
use Rattle.std.proofs.lemmas.List.{append-nil}
use Rattle.vpf_source.specs.Files.{Files}
use Rattle.vpf_source.specs.declared.file.File.{File}
use Rattle.vpf_table.specs.Grid.{Grid}
use Rattle.vpf_prims.specs.Reading.{PrimitiveTables}
use Rattle.vpf_library_files.specs.Loading.Holding.{AreHeld, bytes_in}
use Rattle.vpf_library_files.specs.Loading.Loading.{most_loaded, within}
use Rattle.vpf_library_files.specs.Inner.Loading.FileLaws.{bytes_of_both}
use Rattle.vpf_tiler.specs.Inner.TiledFiles.Folders.{HoldsExactly}
use Rattle.vpf_tiler.specs.Inner.TiledFiles.Names.{file_in}
use Rattle.vpf_tiler.specs.Inner.TiledFiles.PairLaws.{all_weaker}
use Rattle.vpf_tiler.specs.Inner.TiledFiles.TableLaws.{IsSmallFile, all_behind, bytes_moved, files_held}
use Rattle.vpf_tiler.specs.Inner.Laws.{MadeAgrees, MadeGoesOn, MadeHasCycles, MadeIsGlued}
use Rattle.vpf_tiler.specs.Tilings.{AreInFolder, Tiling, tiling_of}
use Rattle.vpf_feature_files.specs.Reading.{schema_name}
use Rattle.vpf_feature_files.specs.Schemas.{Schema}
use Rattle.vpf_feature_writing.specs.Making.{schema_made}
use Rattle.vpf_feature_writing.specs.FeatureReading.Laws.{LacksOfSchema, TablesAreRead, WrittenAgrees, WrittenAreRead}
use Rattle.vpf_tiler.specs.Inner.TiledFeatures.Laws.{AreMadeOf, MadeWithFeatures, NoSchemaTableIsMade, StandAlone}
use Rattle.vpf_tiler.proofs.MadeLemmas.{are_made}
use Rattle.vpf_tiler.proofs.tiled_features.MadeFeatures.{AreMoved, IsFeatureFile, IsPlaced, MakingLaws, features_move}
use Rattle.vpf_tiler.proofs.tiled_features.TilesHeld.{AreBoth, coverage_held_too}
use Rattle.vpf_tiler.proofs.tiled_features.Trees.{holds_only, only}

-- what is known of tilings, and of features that are read and written
pub record Known : Type 0 where
  pub tiles : MadeAgrees
  pub next : MadeGoesOn
  pub cycles : MadeHasCycles
  pub glued : MadeIsGlued
  pub making : MakingLaws
  pub tables : TablesAreRead
  pub agree : WrittenAgrees
  pub read : WrittenAreRead
  pub no_schema : NoSchemaTableIsMade

-- ---- what the folder lacks of features

-- without a schema table no files are made
none_made : (cov : List ℕ) (fcs : Option Grid) (S : Schema) (files : List File) → fcs ≡ None → schema_made cov fcs S.tables ≡ Ok files → files ≡ []
none_made cov None S files none e = cc
none_made cov (Some grid) S files none e = absurd (cc none)

no_schema_there : Known → (cov : List ℕ) (T : PrimitiveTables) (plan tileref : Grid) (S : Schema) (tiles features : List File) (held : Files) (folder : List ℕ)
    → AreMadeOf cov T plan tileref S tiles features → StandAlone held folder cov S tiles features → S.fcs ≡ None
    → held (schema_name (within folder cov)) ≡ None
no_schema_there k cov T plan tileref S tiles features held folder m alone none =
    let w : Tiling = tiling_of T plan tileref in
    let no_features : features ≡ [] = none_made cov S.fcs S features none m.features_are in
    let only_tiles : HoldsExactly held folder tiles =
    subst (HoldsExactly held folder) (ap (λ (x : List File). tiles ++ x) no_features ∙ append-nil tiles) alone.exactly in
    k.no_schema held folder cov T w.coverage w.plan tileref alone.named
    (subst (HoldsExactly held folder) (sym (are_made cov T plan tileref tiles m.tiles_are).are) only_tiles)

-- ---- what it holds

features_held : (held : Files) (folder cov : List ℕ) (tiles features : List File) → HoldsExactly held folder (tiles ++ features)
    → AllByRecursion (IsFeatureFile cov) features → AreHeld held (map (file_in folder) features)
features_held held folder cov tiles features exactly inside =
    files_held held folder features (all_behind (λ (file : File). held (within folder file.name) ≡ Some file.bytes) tiles features exactly.there)
    (all_weaker (IsFeatureFile cov) IsSmallFile (λ file i. i.small) features inside)

pub made_with_features : Known → MadeWithFeatures
made_with_features k cov T plan tileref S tiles features held folder text m alone =
    let placed : IsPlaced folder cov = record { out_text = alone.folder_text; cov_text = text; some = alone.named } in
    let moved : AreMoved folder cov _ features = features_move k.making folder cov S features placed (k.tables m.source S m.read) m.features_are in
    let both : AreBoth held folder cov tiles features =
    record { placed = placed; exactly = alone.exactly; inside = moved.inside; edges = alone.lacks.edges } in
    let sum = bytes_of_both tiles features in
    let few = alone.few in
    let there : AreInFolder (only folder tiles held) folder cov tiles = record {
      folder_text = alone.folder_text;
      named = alone.named;
      exactly = holds_only held folder tiles features alone.exactly;
      few = omega (arith, few, sum);
    } in
    let own = k.tiles cov T plan tileref tiles text m.given m.tiles_are (only folder tiles held) folder there in
    let too = coverage_held_too held folder cov tiles features own.loaded both own.holds in
    let more = too.few in
    let same = bytes_moved folder features in
    let all_few : bytes_in own.loaded.files + bytes_in (map (file_in folder) features) ≤ most_loaded = omega (arith, few, sum, more, same) in
    let lacks : LacksOfSchema held (within folder cov) S = record {
      fcs = no_schema_there k cov T plan tileref S tiles features held folder m alone;
      tables = alone.lacks.tables;
      indexes = alone.lacks.indexes;
    } in
    record {
      tiles = record { loaded = own.loaded; holds = too.holds; columns = own.columns; agrees = own.agrees; says = own.says };
      next = k.next cov T plan tileref tiles text m.given m.tiles_are (only folder tiles held) folder there own.loaded own.holds;
      cycles = k.cycles cov T plan tileref tiles text m.given m.tiles_are (only folder tiles held) folder there own.loaded own.holds;
      glued = k.glued cov T plan tileref tiles text m.given m.tiles_are (only folder tiles held) folder there own.loaded own.holds;
      behind = bytes_in own.loaded.files + bytes_in (map (file_in folder) features);
      read = k.read m.source (within folder cov) S (map (file_in folder) features) held (bytes_in own.loaded.files) m.read m.agree moved.moved
          (features_held held folder cov tiles features alone.exactly moved.inside) lacks all_few;
      agree = k.agree m.source S m.read m.agree;
    }
