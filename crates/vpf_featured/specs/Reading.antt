-- A coverage with its features, as they are read.
use Rattle.std.specs.Prelude.{ℕ, List, [], None, Ok}
use Rattle.vpf_source.specs.Files.{Files}
use Rattle.vpf_library_files.specs.Loading.Loading.{LoadedCoverage, Read, ◌and_then◌, read_coverage, within}
use Rattle.vpf_feature_files.specs.Reading.{read_schema}
use Rattle.vpf_feature_files.specs.Schemas.{Schema}

-- a coverage, with all its files, and its features
pub record FeaturedCoverage : Type 0 where
  pub coverage : LoadedCoverage
  pub schema : Schema

-- no features
abbrev pub no_features : Schema
no_features = record { fcs = None; tables = [] }

-- a coverage without features
abbrev pub unfeatured : LoadedCoverage → FeaturedCoverage
unfeatured c = record { coverage = c; schema = no_features }

-- their files, in reading order
abbrev pub read_featured : Files → (lib cov : List ℕ) → ℕ → Read FeaturedCoverage
read_featured files lib cov loaded =
    read_coverage files lib cov loaded and_then λ coverage n.
    read_schema files (within lib cov) n and_then λ schema n.
    (Ok (record { coverage = coverage; schema = schema }), n)
