-- What disagrees first in a coverage and its features, and the file that it is in: the tables of primitives by themselves, then the feature tables and
-- their thematic indexes, and then the topology.
use Rattle.std.specs.Prelude.{ℕ, List, Option}
use Rattle.std.specs.Option.{option_map}
use Rattle.vpf_source.specs.declared.file.File.{File}
use Rattle.vpf_findings.specs.Findings.{Disagreement}
use Rattle.vpf_findings.specs.Firsts.{◌or◌}
use Rattle.vpf_numbers.specs.TableLines.{coverage_numbers}
use Rattle.vpf_cross.specs.CrossFinding.{topology_finding}
use Rattle.vpf_features.specs.Finding.{Named, in_file}
use Rattle.vpf_features.specs.FeatureAgreement.Agreeing.{features_finding}
use Rattle.vpf_featured.specs.LoadReplies.Places.{place_name}
use Rattle.vpf_featured.specs.Reading.{FeaturedCoverage}

-- a place that disagrees, in its file among those of the coverage
abbrev pub in_its_file : List File → Disagreement → Named
in_its_file files d = in_file (place_name files d.file) d

-- .. where there is one
abbrev pub placed_finding : List File → Option Disagreement → Option Named
placed_finding files first = option_map (in_its_file files) first

-- the first finding on tables and indexes, each by itself; the folder is that of the coverage
abbrev pub tables_or_features_finding : (folder : List ℕ) → FeaturedCoverage → Option Named
tables_or_features_finding folder read =
    placed_finding read.coverage.files (coverage_numbers read.coverage.coverage) or features_finding folder read.schema.tables

-- .. or else on the topology
abbrev pub featured_finding : (folder : List ℕ) → FeaturedCoverage → Option Named
featured_finding folder read =
    tables_or_features_finding folder read or placed_finding read.coverage.files (topology_finding read.coverage.coverage)
