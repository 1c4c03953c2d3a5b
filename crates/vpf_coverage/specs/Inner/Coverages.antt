-- What contracts see of a coverage, and what is so of each.
use Rattle.std.specs.Prelude.{◌≡◌, None, is_some}
use Rattle.vpf_prims.specs.Coverages.{CoverageTables}
use Rattle.vpf_numbers.specs.TableLines.{coverage_numbers}
use Rattle.vpf_coverage.specs.declared.coverage.Coverage.TheInside.{Inside}
use Rattle.vpf_coverage.specs.Inner.Opened.{HasCountedTiles}
use Rattle.vpf_coverage.specs.Inner.Opening.Opened.{names_of}

-- the tables of its tiles; it is tiled where its tiles have paths
abbrev pub coverage_of : Inside → CoverageTables
coverage_of c = record { is_tiled = is_some c.paths; paths = names_of c.paths; tiles = c.tiles.items }

-- nothing disagrees in its columns, ids, references and marks, and its tiles are those of a library
pub record IsCoverage (c : Inside) : Type 0 where
  pub numbers : coverage_numbers (coverage_of c) ≡ None
  pub counted : HasCountedTiles (coverage_of c)
