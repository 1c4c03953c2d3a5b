-- The files of a coverage and of its features, against what was read.
use Rattle.std.specs.Prelude.{◌≡◌, ℕ, List}
use Rattle.vpf_library_files.specs.Loading.Holding.{AreCoverageFiles}
use Rattle.vpf_library_files.specs.Loading.Loading.{within}
use Rattle.vpf_feature_files.specs.Inner.Held.{AreSchemaFiles}
use Rattle.vpf_featured.specs.declared.loading.FeaturedFiles.{FeaturedFiles}
use Rattle.vpf_featured.specs.Reading.{FeaturedCoverage}

-- the files are those of what was read
pub record AreFeaturedFiles (lib cov : List ℕ) (files : FeaturedFiles) (read : FeaturedCoverage) : Type 0 where
  pub coverage : AreCoverageFiles lib cov read.coverage.coverage files.coverage
  pub listed : files.coverage ≡ read.coverage.files
  pub features : AreSchemaFiles (within lib cov) read.schema files.features

-- they are those of something that was read
abbrev pub AreOfFeatured : (lib cov : List ℕ) → FeaturedFiles → Type 0
AreOfFeatured lib cov files = (read : FeaturedCoverage) × AreFeaturedFiles lib cov files read
