-- What is counted of a tiled coverage by a listing of its boundary cycles.
use Rattle.std.specs.Prelude.{◌≡◌, List}
use Rattle.vpf_source.specs.declared.file.File.{File}
use Rattle.vpf_darts.specs.declared.darts.TileDart.{TileDart}
use Rattle.vpf_darts.specs.Listings.{numbers_of}
use Rattle.vpf_prims.specs.Coverages.{CoverageTables}
use Rattle.vpf_prims.specs.Libraries.{library_of}
use Rattle.vpf_library_commands.specs.TraceTracing.{IsTrace}
use Rattle.vpf_drill.specs.declared.numbers.TiledNumbers.{TiledNumbers}
use Rattle.vpf_drill.specs.Numbers.{tiled_numbers}

-- these are the numbers of a tiled coverage, for which these files were made, by the listing of its boundary cycles past its lines
pub record IsOfTiled (c : CoverageTables) (made : List File) (numbers : TiledNumbers) : Type 0 where
  pub cycles : List (List TileDart)
  pub are : IsTrace (library_of c) (numbers_of cycles)
  pub is : numbers ≡ tiled_numbers c cycles made
