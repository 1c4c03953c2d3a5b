-- That a coverage of a library agrees with its features, by the grammar of its files and the field's words alone.
use Rattle.std.specs.Prelude.{◌≡◌, ◌↔◌, ◌+◌, ℕ, List, None, Ok}
use Rattle.vpf_source.specs.Files.{Files, HoldsBytes}
use Rattle.vpf_prims.specs.Libraries.{library_of}
use Rattle.vpf_numbers.specs.Matching.{HaveColumns}
use Rattle.vpf_library_files.specs.Loading.Loading.{LoadedCoverage, read_coverage, within}
use Rattle.vpf_library_files.specs.Loading.Holding.{HoldsCoverage, bytes_in}
use Rattle.vpf_feature_files.specs.Holding.{HoldsSchema}
use Rattle.vpf_features.specs.FeatureAgreement.Agreeing.{FeaturesAgree}
use Rattle.vpf_featured.specs.Reading.{FeaturedCoverage, read_featured}
use Rattle.vpf_cross.specs.Agreeing.{LibraryAgrees}
use Rattle.vpf_replies.specs.declared.verdict.Verdict.TheVariants.{Done}
use Rattle.vpf_replies.specs.Answer.{done}
use Rattle.vpf_library_commands.specs.declared.checking.CheckRequest.{CheckRequest}
use Rattle.vpf_library_commands.specs.Check.{agrees_text, check_answer, coverage_finding}

-- The tree holds the tables of the coverage, which have their columns, and whose rows agree in each tile and across the tiles; and it holds its features,
-- which agree.
pub record IsAgreeing (files : Files) (request : CheckRequest) (read : FeaturedCoverage) : Type 0 where
  pub held : HoldsCoverage files request.lib request.cov read.coverage
  pub columns : HaveColumns read.coverage.coverage
  pub rows : LibraryAgrees (library_of read.coverage.coverage)
  pub featured : HoldsSchema files (within request.lib request.cov) read.schema (bytes_in read.coverage.files)
  pub features : FeaturesAgree read.schema

-- the coverage that is asked for agrees
abbrev pub Agrees : Files → CheckRequest → Type 0
Agrees files request = (read : FeaturedCoverage) × IsAgreeing files request read

-- over files of bytes `check` is done exactly where the coverage agrees
abbrev pub CheckDecides : Type 0
CheckDecides = (files : Files) (request : CheckRequest) → HoldsBytes files → ((check_answer files request).verdict ≡ Done) ↔ Agrees files request

-- and then it counts the primitives of its tiles
abbrev pub CheckCounts : Type 0
CheckCounts = (files : Files) (request : CheckRequest) (read : FeaturedCoverage) → IsAgreeing files request read
    → check_answer files request ≡ done (agrees_text read.coverage.coverage)

-- what agrees is what is read
abbrev pub AgreeingIsRead : Type 0
AgreeingIsRead = (files : Files) (request : CheckRequest) (read : FeaturedCoverage) (agrees : IsAgreeing files request read)
    → read_featured files request.lib request.cov 0 ≡ (Ok read, bytes_in read.coverage.files + bytes_in agrees.featured.files)

-- of a coverage that is read from files of bytes, features apart, nothing is found exactly where its columns are right and its rows agree
abbrev pub CoverageDecides : Type 0
CoverageDecides = (files : Files) (lib cov : List ℕ) (c : LoadedCoverage) (loaded : ℕ) → HoldsBytes files → read_coverage files lib cov 0 ≡ (Ok c, loaded)
    → (coverage_finding c.coverage ≡ None) ↔ (HaveColumns c.coverage × LibraryAgrees (library_of c.coverage))
