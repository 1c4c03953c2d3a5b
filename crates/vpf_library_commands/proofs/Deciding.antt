-- `check` is done exactly where the coverage agrees.
use Rattle.std.proofs.Common.{◌≡◌, ℕ, Option, Some, None, List, refl, sym, ap, subst, ◌∙◌}
use Rattle.std.specs.Prelude.{◌↔◌, Result, Ok, Err}
use Rattle.std.specs.Option.{option_map}
use Rattle.vpf_source.specs.Files.{Files, HoldsBytes}
use Rattle.vpf_source.specs.declared.file.File.{File}
use Rattle.vpf_findings.specs.Inner.FirstLaws.{or-none_both}
use Rattle.vpf_prims.specs.Coverages.{CoverageTables}
use Rattle.vpf_prims.specs.Libraries.{library_of}
use Rattle.vpf_numbers.specs.Inner.Laws.{CoverageNumbersDecide}
use Rattle.vpf_numbers.specs.Matching.{HaveColumns}
use Rattle.vpf_numbers.specs.TableLines.{coverage_numbers}
use Rattle.vpf_library_files.specs.Loading.Holding.{AreCoverageFiles, bytes_in}
use Rattle.vpf_library_files.specs.Inner.Loading.Laws.{FilesAreLibraries, FilesAreWhole, HeldIsRead, ReadIsHeld}
use Rattle.vpf_library_files.specs.Loading.Loading.{Read, read_coverage, within}
use Rattle.vpf_library_files.specs.declared.loading.loading.LoadStop.{LoadStop}
use Rattle.vpf_cross.specs.Agreeing.{LibraryAgrees}
use Rattle.vpf_cross.specs.CrossFinding.{topology_finding}
use Rattle.vpf_cross.specs.Inner.Laws.{AgreementDecides, LikeAreWhole}
use Rattle.vpf_replies.specs.declared.verdict.Verdict.TheVariants.{Done}
use Rattle.vpf_replies.specs.Answer.{Answer}
use Rattle.vpf_library_commands.specs.declared.checking.CheckRequest.{CheckRequest}
use Rattle.vpf_feature_files.specs.Inner.Laws.{HeldSchemaIsRead, ReadSchemaIsHeld}
use Rattle.vpf_feature_files.specs.Reading.{read_schema}
use Rattle.vpf_features.specs.Finding.{Named}
use Rattle.vpf_features.specs.FeatureAgreement.Agreeing.{FeaturesAgree, FeaturesDecide, features_finding}
use Rattle.vpf_features.specs.Inner.FeatureAgreement.StepLaws.{both_ok, came, count_same, value_same}
use Rattle.vpf_featured.specs.Finding.{in_its_file, placed_finding, tables_or_features_finding}
use Rattle.vpf_featured.specs.Reading.{FeaturedCoverage, read_featured}
use Rattle.vpf_library_commands.specs.Agreeing.{AgreeingIsRead, Agrees, CheckCounts, CheckDecides, CoverageDecides, IsAgreeing}
use Rattle.vpf_library_commands.specs.Check.{coverage_finding, found_answer, read_answer, read_finding}
use Rattle.vpf_library_commands.specs.Inner.DecidingLaws.{stop_refuses}

-- ---- a stop is no answer of what is done

pub finding_refuses : (c : CoverageTables) (first : Option Named) → (found_answer c first).verdict ≡ Done → first ≡ None
finding_refuses c None h = refl
finding_refuses c (Some (name, d)) h = absurd cc

-- ---- there is no finding exactly where the coverage agrees

-- what is so of the files, the numbers and the topology of every coverage
pub record CoverageLaws : Type 0 where
  pub libraries : FilesAreLibraries
  pub whole : FilesAreWhole
  pub numbers : CoverageNumbersDecide
  pub topology : AgreementDecides
  pub alike : LikeAreWhole

pub coverage_laws : FilesAreLibraries → FilesAreWhole → CoverageNumbersDecide → AgreementDecides → LikeAreWhole → CoverageLaws
coverage_laws libraries whole numbers topology alike = record { libraries = libraries; whole = whole; numbers = numbers; topology = topology; alike = alike }

pub agreement : CoverageLaws → (lib cov : List ℕ) (c : CoverageTables) (files : List File) → AreCoverageFiles lib cov c files → (coverage_finding c ≡ None) ↔ (HaveColumns c × LibraryAgrees (library_of c))
agreement laws lib cov c files are =
    let library = laws.libraries lib cov c files are in
    let rows = laws.whole lib cov c files are in (
      λ none.
          let apart : (coverage_numbers c ≡ None) × (topology_finding c ≡ None) = or-none_both (coverage_numbers c) (topology_finding c) none in
          let right = (laws.numbers c).0 apart.0 in
          (right.0, (laws.topology c library right.1 (laws.alike c library right.0 rows)).0 apart.1),
      λ agrees.
          let none : coverage_numbers c ≡ None = (laws.numbers c).1 (agrees.0, agrees.1.numbered) in
          let behind : topology_finding c ≡ None = (laws.topology c library agrees.1.numbered (laws.alike c library agrees.0 rows)).1 agrees.1 in
          rw none behind,
    )

-- a coverage that is read alone
pub coverage_decides : ReadIsHeld → CoverageLaws → CoverageDecides
coverage_decides held laws files lib cov c loaded bytes e = agreement laws lib cov c.coverage c.files (held files lib cov c loaded bytes e).are

-- ---- the same with features

-- what is so of reading coverages, of their findings, and of those of features
pub record ReadLaws : Type 0 where
  pub held : HeldIsRead
  pub read : ReadIsHeld
  pub coverage : CoverageLaws
  pub schema : HeldSchemaIsRead
  pub schema_read : ReadSchemaIsHeld
  pub features : FeaturesDecide

pub read_laws : HeldIsRead → ReadIsHeld → CoverageLaws → HeldSchemaIsRead → ReadSchemaIsHeld → FeaturesDecide → ReadLaws
read_laws held read coverage schema schema_read features =
    record { held = held; read = read; coverage = coverage; schema = schema; schema_read = schema_read; features = features }

-- a coverage was read, and its features behind it
record PartsRead (files : Files) (request : CheckRequest) (v : FeaturedCoverage) (n : ℕ) : Type 0 where
  middle : ℕ
  coverage : read_coverage files request.lib request.cov 0 ≡ (Ok v.coverage, middle)
  schema : read_schema files (within request.lib request.cov) middle ≡ (Ok v.schema, n)

parts_read : (files : Files) (request : CheckRequest) (v : FeaturedCoverage) (n : ℕ) → read_featured files request.lib request.cov 0 ≡ (Ok v, n) → PartsRead files request v n
parts_read files request v n e =
    let folder = within request.lib request.cov in
    let a = both_ok (read_coverage files request.lib request.cov 0) _ v n e in
    let b = both_ok (read_schema files folder a.count) _ v n a.then in
    let is = value_same (record { coverage = a.value; schema = b.value }) v b.count n b.then in
    record {
      middle = a.count;
      coverage = a.comes ∙ ap (λ (x : FeaturedCoverage). came x.coverage a.count) is;
      schema = b.comes ∙ (ap (λ (x : FeaturedCoverage). came x.schema b.count) is ∙ ap (came v.schema) (count_same _ v b.count n b.then));
    }

map_none : {A B : Type 0} (f : A → B) (o : Option A) → option_map f o ≡ None → o ≡ None
map_none f None e = refl
map_none f (Some x) e = absurd cc

-- a coverage agrees, and its features do
Agreed : FeaturedCoverage → Type 0
Agreed v = HaveColumns v.coverage.coverage × LibraryAgrees (library_of v.coverage.coverage) × FeaturesAgree v.schema

featured_agreement : ReadLaws → (files : Files) (request : CheckRequest) (v : FeaturedCoverage) (before n : ℕ)
    → AreCoverageFiles request.lib request.cov v.coverage.coverage v.coverage.files → read_schema files (within request.lib request.cov) before ≡ (Ok v.schema, n)
    → (read_finding request v ≡ None) ↔ Agreed v
unfolding Agreed
featured_agreement laws files request v before n are read =
    let folder = within request.lib request.cov in
    let c = v.coverage.coverage in
    let numbers = placed_finding v.coverage.files (coverage_numbers c) in
    let topology = placed_finding v.coverage.files (topology_finding c) in
    let alone = agreement laws.coverage request.lib request.cov c v.coverage.files are in
    let featured = laws.features files folder before n v.schema read in (
      λ none.
          let apart = or-none_both (tables_or_features_finding folder v) topology none in
          let first = or-none_both numbers (features_finding folder v.schema.tables) apart.0 in
          let no_numbers : coverage_numbers c ≡ None = map_none (in_its_file v.coverage.files) (coverage_numbers c) first.0 in
          let no_topology : topology_finding c ≡ None = map_none (in_its_file v.coverage.files) (topology_finding c) apart.1 in
          let fine = alone.0 (rw (no_numbers, no_topology) refl) in
          (fine.0, fine.1, featured.0 first.1),
      λ agrees.
          let none : coverage_finding c ≡ None = alone.1 (agrees.0, agrees.1) in
          let apart : (coverage_numbers c ≡ None) × (topology_finding c ≡ None) = or-none_both (coverage_numbers c) (topology_finding c) none in
          let no_features : features_finding folder v.schema.tables ≡ None = featured.1 agrees.2 in
          rw (apart.0, no_features, apart.1) refl,
    )

-- ---- both ways

-- what is read, and in which nothing is found, agrees
pub agreeing_read : ReadLaws → (files : Files) (request : CheckRequest) → HoldsBytes files → (v : FeaturedCoverage) (n : ℕ)
    → read_featured files request.lib request.cov 0 ≡ (Ok v, n) → read_finding request v ≡ None → IsAgreeing files request v
unfolding Agreed
agreeing_read laws files request bytes v n e none =
    let parts = parts_read files request v n e in
    let holds = laws.read files request.lib request.cov v.coverage parts.middle bytes parts.coverage in
    let again = laws.held files request.lib request.cov v.coverage holds in
    let count : parts.middle ≡ bytes_in v.coverage.files = count_same v.coverage v.coverage parts.middle (bytes_in v.coverage.files) (sym parts.coverage ∙ again) in
    let folder = within request.lib request.cov in
    let before = bytes_in v.coverage.files in
    let schema = subst (λ (m : ℕ). read_schema files folder m ≡ came v.schema n) count parts.schema in
    let featured = laws.schema_read files folder v.schema before n bytes holds.few schema in
    let fine = (featured_agreement laws files request v parts.middle n holds.are parts.schema).0 none in
    record { held = holds; columns = fine.0; rows = fine.1; featured = featured.0; features = fine.2 }

-- what agrees is read
pub agreeing_is_read : HeldIsRead → HeldSchemaIsRead → AgreeingIsRead
agreeing_is_read held schema files request v agrees =
    let folder = within request.lib request.cov in
    let features = schema files folder v.schema (bytes_in v.coverage.files) agrees.featured in
    rw (held files request.lib request.cov v.coverage agrees.held, features) refl

-- and nothing is found in it
pub agreeing_has_none : ReadLaws → (files : Files) (request : CheckRequest) (v : FeaturedCoverage) → IsAgreeing files request v → read_finding request v ≡ None
unfolding Agreed
agreeing_has_none laws files request v agrees =
    let folder = within request.lib request.cov in
    let before = bytes_in v.coverage.files in
    let features = laws.schema files folder v.schema before agrees.featured in
    (featured_agreement laws files request v before _ agrees.held.are features).1 (agrees.columns, agrees.rows, agrees.features)

agrees_so : ReadLaws → (files : Files) (request : CheckRequest) → HoldsBytes files → (read : Result FeaturedCoverage LoadStop) (n : ℕ)
    → read_featured files request.lib request.cov 0 ≡ (read, n) → (read_answer request read).verdict ≡ Done → Agrees files request
agrees_so laws files request bytes (Ok v) n e h =
    (v, agreeing_read laws files request bytes v n e (finding_refuses v.coverage.coverage (read_finding request v) h))
agrees_so laws files request bytes (Err stop) n e h = absurd (stop_refuses stop h)

pub check_counts : ReadLaws → CheckCounts
check_counts laws files request v agrees =
    ap (λ (r : Read FeaturedCoverage). read_answer request r.0) (agreeing_is_read laws.held laws.schema files request v agrees)
    ∙ ap (found_answer v.coverage.coverage) (agreeing_has_none laws files request v agrees)

pub check_decides : ReadLaws → CheckDecides
check_decides laws files request bytes = (
  λ h. agrees_so laws files request bytes (read_featured files request.lib request.cov 0).0 (read_featured files request.lib request.cov 0).1 refl h,
  λ agrees. ap (λ (answer : Answer). answer.verdict) (check_counts laws files request agrees.0 agrees.1),
)
