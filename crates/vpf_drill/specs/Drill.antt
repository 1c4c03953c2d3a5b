-- `drill`: the grid of n by n cells cut into tiles, checked and traced, and what comes of it in numbers.
use Rattle.std.specs.Prelude.{◌≡◌, ℕ, List, Ok, Some}
use Rattle.vpf_source.specs.Files.{Files}
use Rattle.vpf_source.specs.Making.{with_all}
use Rattle.vpf_source.specs.declared.file.File.{File}
use Rattle.vpf_darts.specs.declared.darts.TileDart.{TileDart}
use Rattle.vpf_darts.specs.Listings.{numbers_of}
use Rattle.vpf_prims.specs.Libraries.{library_of}
use Rattle.vpf_library_files.specs.Loading.Loading.{LoadedCoverage, read_coverage}
use Rattle.vpf_library_commands.specs.TraceTracing.{IsTrace}
use Rattle.vpf_replies.specs.Answer.{Answer, done}
use Rattle.vpf_library_commands.specs.Tile.{tile_answer}
use Rattle.vpf_drill.specs.GridCutting.Held.{grid_held}
use Rattle.vpf_drill.specs.GridCutting.Reading.{grid_request}
use Rattle.vpf_drill.specs.Numbers.{numbers_text, source_numbers, tiled_numbers}

-- the files that `tile` makes of the grid
abbrev pub cut_grid : ℕ → List File
cut_grid n = (tile_answer (grid_held n) grid_request).made

-- The answer: the coverage of the grid is read, what `tile` makes of it is put beside it and read again, and its boundary cycles past its lines
-- are listed.
pub record IsDrill (n : ℕ) (answer : Answer) : Type 0 where
  pub source : LoadedCoverage
  pub is_source : (read_coverage (grid_held n) grid_request.lib grid_request.cov 0).0 ≡ Ok source
  pub after : Files
  pub is_after : with_all (cut_grid n) (Some (grid_held n)) ≡ Some after
  pub tiled : LoadedCoverage
  pub is_tiled : (read_coverage after grid_request.out grid_request.cov 0).0 ≡ Ok tiled
  pub cycles : List (List TileDart)
  pub are : IsTrace (library_of tiled.coverage) (numbers_of cycles)
  pub is : answer ≡ done (numbers_text n (source_numbers source.coverage) (tiled_numbers tiled.coverage cycles (cut_grid n)))
