-- Where tiling comes to some files with features, each folder that holds exactly these files holds both, and they are what the coverage is.
use Rattle.std.proofs.Common.{◌≡◌, ◌≤◌, ℕ, List, ◌++◌, length, Option, None, Some, Result, Ok, Err, Vec, Global, refl, ap, subst, ◌∙◌}
use Rattle.std.specs.Prelude.{IfOk, IsUtf8}
use Rattle.vpf_base.specs.Results.{Meets}
use Rattle.vpf_source.specs.Files.{Files}
use Rattle.vpf_source.specs.declared.file.File.{File}
use Rattle.vpf_table.specs.Grid.{Grid}
use Rattle.vpf_prims.specs.Libraries.{library_of}
use Rattle.vpf_prims.specs.Primitives.{Library}
use Rattle.vpf_prims.specs.Reading.{PrimitiveTables}
use Rattle.vpf_prims.specs.Tables.{TileTables}
use Rattle.vpf_library_files.specs.Loading.Holding.{bytes_in}
use Rattle.vpf_library_files.specs.Inner.Loading.Laws.{HeldIsRead}
use Rattle.vpf_library_files.specs.Loading.Loading.{LoadedCoverage, most_loaded, within}
use Rattle.vpf_library_files.specs.TableFiles.Adding.{made_of_tables}
use Rattle.vpf_feature_files.specs.Inner.Laws.{HeldSchemaIsRead, ReadSchemaIsHeld}
use Rattle.vpf_feature_files.specs.Schemas.{Schema, joins_of}
use Rattle.vpf_feature_writing.specs.Keys.{numbered_row}
use Rattle.vpf_feature_writing.specs.Making.{Made, features_made, made_then}
use Rattle.vpf_feature_writing.specs.FeatureReading.Rebuilt.{rebuilt}
use Rattle.vpf_tiler.specs.declared.errors.TileError.{TileError}
use Rattle.vpf_tiler.specs.CutBy.{plan_refusal}
use Rattle.vpf_tiler.specs.Making.{made_result, planned_tables, tile_error_seen, tiled, tiled_with_features, unless_keyed, unless_refused}
use Rattle.vpf_tiler.specs.Inner.TiledFiles.Folders.{HoldsExactly}
use Rattle.vpf_tiler.specs.Inner.Laws.{AreTilesGiven}
use Rattle.vpf_tiler.specs.Inner.TiledFeatures.Laws.{AreMadeOf, FeaturedAgrees, FeaturedGoesOn, FeaturedHasCycles, FeaturedIsGlued, IsReadWithFeatures}
use Rattle.vpf_tiler.specs.Inner.TiledFeatures.Laws.{MadeWithFeatures, OfFeaturedFilesMade, StandAlone}
use Rattle.vpf_tiler.specs.Inner.TiledFeatures.Folders.{AreFeaturesGiven, LacksTheRest, OfEachCoverageWith}
use Rattle.vpf_tiler.specs.Tilings.{AreInFolder, GoesOnAs, HasCyclesOf, IsGluedTo, Tiling, tiling_of}
use Rattle.vpf_tiler.proofs.MadeLemmas.{causes_passed, one_held, results_passed}

-- what is known of coverages and features that are held, and of tilings with features
pub record KnownOfFeatures : Type 0 where
  pub held : HeldIsRead
  pub schema : HeldSchemaIsRead
  pub schemas : ReadSchemaIsHeld
  pub made : MadeWithFeatures

-- ---- the files that tiling comes to with features

-- tiling comes to the files of tiles, and behind them stand those of features
record AreBothMade (cov : List ℕ) (T : PrimitiveTables) (S : Schema) (plan tileref : Grid) (files : List File) : Type 0 where
  tiles : List File
  features : List File
  tiles_are : tiled cov T plan tileref ≡ Ok tiles
  features_are : features_made cov S ≡ Ok features
  are : files ≡ tiles ++ features

keys_passed : (row : Option ℕ) (made : Result (List File) TileError) (files : List File) → unless_keyed row made ≡ Ok files → made ≡ Ok files
keys_passed None made files e = e
keys_passed (Some row) made files e = absurd cc

-- two lists of files, one behind the other
record AreBehind (one other : Made) (files : List File) : Type 0 where
  first : List File
  second : List File
  one_is : one ≡ Ok first
  other_is : other ≡ Ok second
  are : files ≡ first ++ second

both_passed : (one other : Made) (files : List File) → made_then one other ≡ Ok files → AreBehind one other files
both_passed (Ok first) (Ok second) files e = record { first = first; second = second; one_is = refl; other_is = refl; are = cc }
both_passed (Ok first) (Err error) files e = absurd cc
both_passed (Err error) other files e = absurd cc

both_made : (cov : List ℕ) (T : PrimitiveTables) (S : Schema) (plan tileref : Grid) (files : List File) → tiled_with_features cov T S plan tileref ≡ Ok files
    → AreBothMade cov T S plan tileref files
both_made cov T S plan tileref files e =
    let tables : Made = made_of_tables (planned_tables cov T plan tileref) in
    let features : Made = features_made cov S in
    let row = numbered_row (joins_of S.fcs) in
    let made : Result (List File) TileError = made_result (made_then tables features) in
    let causes = causes_passed (plan_refusal T plan (length tileref.rows)) (unless_keyed row made) files e in
    let both = both_passed tables features files (results_passed (made_then tables features) files (keys_passed row made files causes.1)) in
    record {
      tiles = both.first;
      features = both.second;
      tiles_are = ap (λ r. unless_refused r (made_result tables)) causes.0 ∙ ap made_result both.one_is;
      features_are = both.other_is;
      are = both.are;
    }

-- ---- what the folder holds

read_with : KnownOfFeatures → (cov : List ℕ) (T : PrimitiveTables) (S : Schema) (plan tileref : Grid) (files : List File) (held : Files) (folder : List ℕ)
    → IsUtf8 cov → AreTilesGiven T tileref → AreFeaturesGiven S → tiled_with_features cov T S plan tileref ≡ Ok files → AreInFolder held folder cov files
    → LacksTheRest held folder cov S → IsReadWithFeatures (tiling_of T plan tileref) cov held folder S
read_with k cov T S plan tileref files held folder text given features made there lacks =
    let both = both_made cov T S plan tileref files made in
    let of : AreMadeOf cov T plan tileref S both.tiles both.features = record {
      given = given;
      tiles_are = both.tiles_are;
      source = features.folder;
      read = record {
        held = features.held;
        bytes = features.bytes;
        before = features.before;
        behind = _;
        read = k.schema features.held features.folder S features.before features.holds;
      };
      agree = features.agree;
      features_are = both.features_are;
    } in
    let alone : StandAlone held folder cov S both.tiles both.features = record {
      folder_text = there.folder_text;
      named = there.named;
      exactly = subst (HoldsExactly held folder) both.are there.exactly;
      few = subst (λ (fs : List File). bytes_in fs ≤ most_loaded) both.are there.few;
      lacks = lacks;
    } in
    k.made cov T plan tileref S both.tiles both.features held folder text of alone

-- what is so of the coverage that is held is so of whatever coverage the folder holds
of_each : KnownOfFeatures → (P : Tiling → Library → Type 0)
    → ((w : Tiling) (S : Schema) (cov : List ℕ) (held : Files) (folder : List ℕ) (r : IsReadWithFeatures w cov held folder S) → P w (library_of r.tiles.loaded.coverage))
    → OfFeaturedFilesMade (λ w S cov files. OfEachCoverageWith S cov files (P w))
of_each k P so cov T S plan tileref files text given features made held folder there bytes lacks loaded holds =
    let w : Tiling = tiling_of T plan tileref in
    let r = read_with k cov T S plan tileref files held folder text given features made there lacks in
    let same : r.tiles.loaded ≡ loaded = one_held k.held held folder cov r.tiles.loaded loaded r.tiles.holds holds in
    subst (λ (c : LoadedCoverage). P w (library_of c.coverage)) same (so w S cov held folder r)

-- ---- the laws

pub featured_agrees : KnownOfFeatures → FeaturedAgrees
featured_agrees k cov T S plan tileref files text given features made held folder there bytes lacks =
    let r = read_with k cov T S plan tileref files held folder text given features made there lacks in
    let before = bytes_in r.tiles.loaded.files in
    record {
      tiles = r.tiles;
      features = (k.schemas held (within folder cov) (rebuilt S) before r.behind bytes r.tiles.holds.few r.read).0;
      agree = r.agree;
    }

pub featured_goes_on : KnownOfFeatures → FeaturedGoesOn
featured_goes_on k = of_each k GoesOnAs (λ w S cov held folder r. r.next)

pub featured_has_cycles : KnownOfFeatures → FeaturedHasCycles
featured_has_cycles k = of_each k HasCyclesOf (λ w S cov held folder r. r.cycles)

pub featured_is_glued : KnownOfFeatures → FeaturedIsGlued
featured_is_glued k = of_each k IsGluedTo (λ w S cov held folder r. r.glued)

-- ---- what a call answered

-- where it answered files, tiling comes to these
if_files : (r : Result (Vec File Global) TileError) (ought : Result (List File) TileError) (P : List File → Type 0)
    → Meets (λ (files : Vec File Global). files.items) tile_error_seen r ought → ((files : List File) → ought ≡ Ok files → P files)
    → IfOk r (λ (files : Vec File Global). P files.items)
if_files (Ok files) ought P e so = so files.items e
if_files (Err error) ought P e so = tt

-- what is so wherever tiling comes to some files with features is so of those that a call answered over the tables of a coverage
pub answered : (P : Tiling → Schema → List ℕ → List File → Type 0) → OfFeaturedFilesMade P → (cov : List ℕ) (own T : TileTables) (S : Schema) (plan tileref : Grid)
    (r : Result (Vec File Global) TileError) → own ≡ T → IsUtf8 cov → AreTilesGiven own.tables tileref → AreFeaturesGiven S
    → Meets (λ (files : Vec File Global). files.items) tile_error_seen r (tiled_with_features cov own.tables S plan tileref)
    → IfOk r (λ (files : Vec File Global). P (tiling_of T.tables plan tileref) S cov files.items)
answered P of cov own T S plan tileref r same text given features e =
    subst (λ (X : TileTables). IfOk r (λ (files : Vec File Global). P (tiling_of X.tables plan tileref) S cov files.items)) same
    (if_files r (tiled_with_features cov own.tables S plan tileref) (P (tiling_of own.tables plan tileref) S cov) e
    (λ files made. of cov own.tables S plan tileref files text given features made))
