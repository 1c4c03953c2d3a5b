-- The files that `tile` reads, against what was read.
use Rattle.std.specs.Prelude.{◌≡◌, ℕ, List, None}
use Rattle.vpf_library_files.specs.Loading.Holding.{AreFilesOf, AreUntiledFiles}
use Rattle.vpf_library_files.specs.Loading.Loading.{tileref_name}
use Rattle.vpf_library_files.specs.Tileref.Stops.{tileref_stop}
use Rattle.vpf_tiling.specs.Plan.PlanLoads.{ArePlanFiles}
use Rattle.vpf_library_commands.specs.declared.tiling.TileFiles.{TileFiles}
use Rattle.vpf_featured.specs.Inner.Held.{AreFeaturedFiles}
use Rattle.vpf_featured.specs.Reading.{FeaturedCoverage}
use Rattle.vpf_featured.specs.declared.loading.FeaturedFiles.{FeaturedFiles}
use Rattle.vpf_library_commands.specs.Tile.{TileParts, featured_in, plan_name}

-- the files are those of a coverage that isn't tiled, and of its features
pub record AreUntiledFeatured (lib cov : List ℕ) (files : FeaturedFiles) (read : FeaturedCoverage) : Type 0 where
  pub untiled : AreUntiledFiles lib cov read.coverage.coverage files.coverage
  pub featured : AreFeaturedFiles lib cov files read

-- they are those of something that was read
abbrev pub AreOfUntiledFeatured : (lib cov : List ℕ) → FeaturedFiles → Type 0
AreOfUntiledFeatured lib cov files = (read : FeaturedCoverage) × AreUntiledFeatured lib cov files read

-- the files are those of what was read: the coverage isn't tiled, nothing ends the reading of the table of tiles, and the plan has its columns
pub record ArePartsFiles (lib cov : List ℕ) (files : TileFiles) (parts : TileParts) : Type 0 where
  pub featured : AreUntiledFeatured lib cov files.featured (featured_in parts)
  pub tileref : AreFilesOf (tileref_name lib) parts.tileref.grid files.tileref
  pub goes_on : tileref_stop parts.tileref.grid ≡ None
  pub plan : ArePlanFiles (plan_name lib cov) parts.plan.grid files.plan

-- they are those of something that was read
abbrev pub ArePartsOf : (lib cov : List ℕ) → TileFiles → Type 0
ArePartsOf lib cov files = (parts : TileParts) × ArePartsFiles lib cov files parts
