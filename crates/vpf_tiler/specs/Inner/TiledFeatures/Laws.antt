-- What is so of every tiled library that is made together with the features of its coverage.
use Rattle.std.specs.Prelude.{◌≡◌, ◌≢◌, ◌≤◌, ◌++◌, ℕ, IsUtf8, List, [], None, Ok, codes}
use Rattle.vpf_source.specs.Files.{Files}
use Rattle.vpf_source.specs.declared.file.File.{File}
use Rattle.vpf_table.specs.Grid.{Grid}
use Rattle.vpf_prims.specs.Libraries.{library_of}
use Rattle.vpf_prims.specs.Primitives.{Primitives}
use Rattle.vpf_prims.specs.Reading.{PrimitiveTables}
use Rattle.vpf_library_files.specs.Loading.Holding.{bytes_in}
use Rattle.vpf_library_files.specs.Loading.Loading.{most_loaded, within}
use Rattle.vpf_library_files.specs.TableFiles.Adding.{files_made}
use Rattle.vpf_library_files.specs.Tileref.Tileref.{IsTileref}
use Rattle.vpf_feature_files.specs.Reading.{read_schema, schema_name}
use Rattle.vpf_feature_files.specs.Schemas.{Schema}
use Rattle.vpf_feature_writing.specs.Agreeing.{FeaturesAgree}
use Rattle.vpf_feature_writing.specs.Making.{features_made}
use Rattle.vpf_feature_writing.specs.FeatureReading.Laws.{IsOwnFile, IsReadSchema}
use Rattle.vpf_feature_writing.specs.FeatureReading.Rebuilt.{rebuilt}
use Rattle.vpf_feature_writing.specs.Inner.FeatureReading.EndingLaws.{EndsIn}
use Rattle.vpf_feature_writing.specs.Inner.FeatureReading.Names.{HaveOtherNames}
use Rattle.vpf_tiler.specs.TileFiles.Tables.{library_tables}
use Rattle.vpf_tiler.specs.Inner.TiledFiles.Folders.{HoldsExactly}
use Rattle.vpf_tiler.specs.Inner.Laws.{AreTilesGiven}
use Rattle.vpf_tiler.specs.Making.{tiled, tiled_with_features}
use Rattle.vpf_tiler.specs.Inner.TiledFeatures.Folders.{AreFeaturesGiven, InEachFolderWith, IsHeldWithFeatures, LacksTheRest, OfEachCoverageWith}
use Rattle.vpf_tiler.specs.Tilings.{GoesOnAs, HasCyclesOf, IsGluedTo, IsHeldInTiles, Tiling, tiling_of}

-- these files are what tiling comes to, and the files of features behind them; the features were read, and agree
pub record AreMadeOf (cov : List ℕ) (T : PrimitiveTables) (plan tileref : Grid) (S : Schema) (tiles features : List File) : Type 0 where
  pub given : AreTilesGiven T tileref
  pub tiles_are : tiled cov T plan tileref ≡ Ok tiles
  pub source : List ℕ
  pub read : IsReadSchema source S
  pub agree : FeaturesAgree S
  pub features_are : features_made cov S ≡ Ok features

-- A folder of a tree holds exactly these files, which have no more bytes in all than a run reads. It lacks the feature tables and the thematic indexes
-- that weren't there, and no thematic index stands where the edges of an untiled coverage would.
pub record StandAlone (held : Files) (folder cov : List ℕ) (S : Schema) (tiles features : List File) : Type 0 where
  pub folder_text : IsUtf8 folder
  pub named : cov ≢ []
  pub exactly : HoldsExactly held folder (tiles ++ features)
  pub few : bytes_in (tiles ++ features) ≤ most_loaded
  pub lacks : LacksTheRest held folder cov S

-- the folder holds the coverage in tiles, which goes on as the coverage does, has its boundary cycles and is glued to it; and behind it the features are read,
-- which agree
pub record IsReadWithFeatures (w : Tiling) (cov : List ℕ) (held : Files) (folder : List ℕ) (S : Schema) : Type 0 where
  pub tiles : IsHeldInTiles w cov held folder
  pub next : GoesOnAs w (library_of tiles.loaded.coverage)
  pub cycles : HasCyclesOf w (library_of tiles.loaded.coverage)
  pub glued : IsGluedTo w (library_of tiles.loaded.coverage)
  pub behind : ℕ
  pub read : read_schema held (within folder cov) (bytes_in tiles.loaded.files) ≡ (Ok (rebuilt S), behind)
  pub agree : FeaturesAgree (rebuilt S)

-- wherever they stand alone, the files that are made are the coverage in tiles with its features; the name of the coverage is text
abbrev pub MadeWithFeatures : Type 0
MadeWithFeatures = (cov : List ℕ) (T : PrimitiveTables) (plan tileref : Grid) (S : Schema) (tiles features : List File) (held : Files) (folder : List ℕ)
    → IsUtf8 cov → AreMadeOf cov T plan tileref S tiles features → StandAlone held folder cov S tiles features
    → IsReadWithFeatures (tiling_of T plan tileref) cov held folder S

-- no file of a tiled library that is made alone is a schema table
abbrev pub NoSchemaTableIsMade : Type 0
NoSchemaTableIsMade = (held : Files) (folder cov : List ℕ) (T : PrimitiveTables) (c : Primitives) (plan : ℕ → ℕ) (tileref : Grid) → cov ≢ []
    → HoldsExactly held folder (files_made (library_tables cov T c plan tileref)) → held (schema_name (within folder cov)) ≡ None

-- Where a folder holds exactly the files of a tiled library and others, nothing stands in the coverage's own folder under a name that an item gives and that
-- none of the others has. The name isn't that of an index, and in that folder not that of the table of tiles.
abbrev pub OwnNamesAreFree : Type 0
OwnNamesAreFree = (held : Files) (folder cov : List ℕ) (T : PrimitiveTables) (c : Primitives) (plan : ℕ → ℕ) (tileref : Grid) (features : List File)
    (name : List ℕ) (letter : ℕ) → IsUtf8 cov → cov ≢ [] → IsTileref tileref → IsOwnFile name → EndsIn letter name → (120 ≡ letter → ⊥)
    → within cov name ≢ codes "tileref/tileref.aft" → HoldsExactly held folder (files_made (library_tables cov T c plan tileref) ++ features)
    → HaveOtherNames features cov name → held (within (within folder cov) name) ≡ None

-- it is so wherever tiling comes to some files with features that are given; the name of the coverage is text
abbrev pub OfFeaturedFilesMade : (Tiling → Schema → (cov : List ℕ) → List File → Type 0) → Type 0
OfFeaturedFilesMade P = (cov : List ℕ) (T : PrimitiveTables) (S : Schema) (plan tileref : Grid) (files : List File) → IsUtf8 cov → AreTilesGiven T tileref
    → AreFeaturesGiven S → tiled_with_features cov T S plan tileref ≡ Ok files → P (tiling_of T plan tileref) S cov files

-- each folder that holds exactly the files holds the coverage in tiles with its features
abbrev pub FeaturedAgrees : Type 0
FeaturedAgrees = OfFeaturedFilesMade (λ w S cov files. InEachFolderWith S cov files (IsHeldWithFeatures w cov S))

-- whatever coverage it holds goes on as the coverage that was cut
abbrev pub FeaturedGoesOn : Type 0
FeaturedGoesOn = OfFeaturedFilesMade (λ w S cov files. OfEachCoverageWith S cov files (GoesOnAs w))

-- it has its boundary cycles
abbrev pub FeaturedHasCycles : Type 0
FeaturedHasCycles = OfFeaturedFilesMade (λ w S cov files. OfEachCoverageWith S cov files (HasCyclesOf w))

-- and it is glued to it
abbrev pub FeaturedIsGlued : Type 0
FeaturedIsGlued = OfFeaturedFilesMade (λ w S cov files. OfEachCoverageWith S cov files (IsGluedTo w))
