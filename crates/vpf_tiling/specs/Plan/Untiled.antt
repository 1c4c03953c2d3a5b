-- The files of an untiled coverage, read one after another up to the first that isn't taken (MIL-STD-2407, 5.2.2, primitives).
use Rattle.std.specs.Prelude.{◌≡◌, ℕ, List, Option, Some, None, Ok, Err, codes}
use Rattle.vpf_source.specs.Files.{Files}
use Rattle.vpf_source.specs.declared.file.File.{File}
use Rattle.vpf_prims.specs.Coverages.{CoverageTables}
use Rattle.vpf_library_files.specs.declared.loading.loading.LoadStop.TheVariants as stops
use Rattle.vpf_library_files.specs.Loading.Holding.{AreUntiledFiles}
use Rattle.vpf_library_files.specs.Loading.Loading.{Read, LoadedCoverage, LoadedTile, ◌and_then◌, read_tile, untiled_loaded, within}

-- the coverage of the tables of a folder; where the folder has none, its edges are missing
abbrev pub tables_or_missing : (folder : List ℕ) → Option LoadedTile → ℕ → Read LoadedCoverage
tables_or_missing folder (Some tile) loaded = (Ok (untiled_loaded tile), loaded)
tables_or_missing folder None loaded = (Err (stops.Missing (within folder (codes "edg"))), loaded)

-- the files of an untiled coverage: the tables of its own folder
abbrev pub read_untiled : Files → (lib cov : List ℕ) → ℕ → Read LoadedCoverage
read_untiled files lib cov loaded = read_tile files (within lib cov) loaded and_then tables_or_missing (within lib cov)

-- some files are an untiled coverage
abbrev pub AreOfUntiled : (lib cov : List ℕ) → List File → Type 0
AreOfUntiled lib cov files = (c : CoverageTables) × AreUntiledFiles lib cov c files

-- all files are those of the untiled coverage
pub record LoadsUntiled (lib cov : List ℕ) (files : List File) (c : LoadedCoverage) : Type 0 where
  pub all : files ≡ c.files
  pub are : AreUntiledFiles lib cov c.coverage c.files
