-- What a tree in memory holds.
use Rattle.std.specs.Prelude.{◌≡◌, ℕ, List, Option, Some, Ok}
use Rattle.vpf_source.specs.Files.{Files}
use Rattle.vpf_library_files.specs.Loading.Loading.{LoadedCoverage, read_coverage}

-- a tree tells its files, and a coverage of them can be read
pub record CanBeRead (told : Option Files) (lib cov : List ℕ) : Type 0 where
  pub held : Files
  pub tells : told ≡ Some held
  pub coverage : LoadedCoverage
  pub read : (read_coverage held lib cov 0).0 ≡ Ok coverage
