-- The files of a tiled library and of its features as what they are, in whatever folder holds exactly these files (MIL-STD-2407, 5.2.3, tiled coverages,
-- cross-tile topology and feature classes).
use Rattle.std.specs.Prelude.{◌≡◌, ℕ, List, None, codes}
use Rattle.vpf_source.specs.Files.{Files, HoldsBytes}
use Rattle.vpf_source.specs.declared.file.File.{File}
use Rattle.vpf_prims.specs.Libraries.{library_of}
use Rattle.vpf_prims.specs.Primitives.{Library}
use Rattle.vpf_library_files.specs.Loading.Holding.{HoldsCoverage, bytes_in}
use Rattle.vpf_library_files.specs.Loading.Loading.{LoadedCoverage, within}
use Rattle.vpf_feature_files.specs.Holding.{HoldsSchema}
use Rattle.vpf_feature_files.specs.Schemas.{Schema}
use Rattle.vpf_feature_writing.specs.Agreeing.{FeaturesAgree}
use Rattle.vpf_feature_writing.specs.FeatureReading.Laws.{LacksTables, LacksThemes}
use Rattle.vpf_feature_writing.specs.FeatureReading.Rebuilt.{rebuilt}
use Rattle.vpf_tiler.specs.Tilings.{InEachFolder, IsHeldInTiles, Tiling}

-- the features of a schema: some folder of a tree of bytes holds them, and they agree
pub record AreFeaturesGiven (S : Schema) : Type 0 where
  pub held : Files
  pub bytes : HoldsBytes held
  pub folder : List ℕ
  pub before : ℕ
  pub holds : HoldsSchema held folder S before
  pub agree : FeaturesAgree S

-- What the features of the coverage lacked isn't there: none of the files that are made stands where a feature table or a thematic index would that is
-- named and wasn't there; and no thematic index has the name of the edges of an untiled coverage.
pub record LacksTheRest (after : Files) (folder cov : List ℕ) (S : Schema) : Type 0 where
  pub tables : LacksTables after (within folder cov) S
  pub indexes : LacksThemes after (within folder cov) S
  pub edges : after (within (within folder cov) (codes "edg")) ≡ None

-- it is so of each folder, in a tree of bytes, that holds exactly these files and lacks what the features lacked
abbrev pub InEachFolderWith : Schema → (cov : List ℕ) → List File → (Files → List ℕ → Type 0) → Type 0
InEachFolderWith S cov files P = InEachFolder cov files (λ held folder. HoldsBytes held → LacksTheRest held folder cov S → P held folder)

-- it is so of the library of whatever coverage such a folder holds
abbrev pub OfEachCoverageWith : Schema → (cov : List ℕ) → List File → (Library → Type 0) → Type 0
OfEachCoverageWith S cov files P = InEachFolderWith S cov files
    (λ held folder. (loaded : LoadedCoverage) → HoldsCoverage held folder cov loaded → P (library_of loaded.coverage))

-- a folder of a tree holds the coverage in tiles, and behind it its features, whose thematic indexes are built anew; all agree
pub record IsHeldWithFeatures (w : Tiling) (cov : List ℕ) (S : Schema) (held : Files) (folder : List ℕ) : Type 0 where
  pub tiles : IsHeldInTiles w cov held folder
  pub features : HoldsSchema held (within folder cov) (rebuilt S) (bytes_in tiles.loaded.files)
  pub agree : FeaturesAgree (rebuilt S)
