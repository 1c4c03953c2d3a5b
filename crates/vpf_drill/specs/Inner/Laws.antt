-- What is so of the grid, and of the answers of `drill`.
use Rattle.std.specs.Prelude.{◌≡◌, ℕ, None, Ok, Some}
use Rattle.vpf_source.specs.Files.{Files}
use Rattle.vpf_source.specs.Making.{with_all}
use Rattle.vpf_library_files.specs.Loading.Loading.{LoadedCoverage, read_coverage, within}
use Rattle.vpf_prims.specs.Libraries.{library_of}
use Rattle.vpf_cross.specs.Agreeing.{LibraryAgrees}
use Rattle.vpf_replies.specs.Answer.{Answer}
use Rattle.vpf_library_commands.specs.Check.{coverage_finding}
use Rattle.vpf_library_commands.specs.TileTheorem.Tilings.Cutting.{cut_files}
use Rattle.vpf_library_commands.specs.TileTheorem.Tilings.Sources.{IsTileSource}
use Rattle.vpf_library_commands.specs.TileTheorem.Tilings.Tilings.{StandsAlone}
use Rattle.vpf_library_commands.specs.FeatureReadingLaws.{LacksThemes}
use Rattle.vpf_drill.specs.GridCutting.Held.{grid_held}
use Rattle.vpf_drill.specs.GridCutting.Reading.{grid_parts, grid_request, grid_tile_tables}
use Rattle.vpf_drill.specs.Drill.{IsDrill, cut_grid}
use Rattle.vpf_drill.specs.Request.{CanBeAsked}

-- the coverage of the grid is read, and nothing is found in it; what `tile` makes of it is put beside it, is read as a coverage, and nothing is
-- found in that, as its rows agree
pub record IsGridTiled (n : ℕ) : Type 0 where
  pub source : LoadedCoverage
  pub source_read : (read_coverage (grid_held n) grid_request.lib grid_request.cov 0).0 ≡ Ok source
  pub source_agrees : coverage_finding source.coverage ≡ None
  pub after : Files
  pub made : with_all (cut_grid n) (Some (grid_held n)) ≡ Some after
  pub tiled : LoadedCoverage
  pub tiled_read : (read_coverage after grid_request.out grid_request.cov 0).0 ≡ Ok tiled
  pub tiled_agrees : coverage_finding tiled.coverage ≡ None
  pub rows_agree : LibraryAgrees (library_of tiled.coverage)

-- so it is of each grid that can be asked for
abbrev pub GridIsTiled : Type 0
GridIsTiled = (n : ℕ) → CanBeAsked n → IsGridTiled n

-- all that is asked of what `tile` cuts, and of what it makes of that, is so of the grid: it is a source, the files made of it stand alone, and where they are
-- put beside it, no thematic index is there that the features lacked
pub record IsGridSource (n : ℕ) : Type 0 where
  pub source : IsTileSource (grid_held n) grid_request (grid_parts n) (grid_tile_tables n)
  pub alone : StandsAlone (grid_held n) grid_request.out (cut_files grid_request (grid_parts n) (grid_tile_tables n))
  pub after : Files
  pub made : with_all (cut_files grid_request (grid_parts n) (grid_tile_tables n)) (Some (grid_held n)) ≡ Some after
  pub lacks : LacksThemes after (within grid_request.out grid_request.cov) (grid_parts n).schema

-- so it is of each grid that can be asked for
abbrev pub GridsAreSources : Type 0
GridsAreSources = (n : ℕ) → CanBeAsked n → IsGridSource n

-- each request has an answer
abbrev pub HasDrill : Type 0
HasDrill = (n : ℕ) → CanBeAsked n → (answer : Answer) × IsDrill n answer

-- .. and only one
abbrev pub OneDrill : Type 0
OneDrill = (n : ℕ) (a b : Answer) → IsDrill n a → IsDrill n b → a ≡ b
