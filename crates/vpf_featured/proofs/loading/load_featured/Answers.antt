use Rattle.std.proofs.Common.{◌≡◌, ◌∙◌, ℕ, List, subst}
use Rattle.std.proofs.lemmas.Result.{err_from_is_err_and}
use Rattle.vpf_library_files.specs.Loading.Loading.{read_coverage, within}
use Rattle.vpf_library_files.specs.Loading.Loads.{ReadsStop, ReadsValue}
use Rattle.vpf_feature_files.specs.Inner.Held.{AreOfSchema, AreSchemaFiles}
use Rattle.vpf_feature_files.specs.Reading.{read_schema}
use Rattle.vpf_featured.proofs.LoadLemmas.{both_are, both_read, coverage_comes, coverage_ends, coverage_stops, features_stop}
use Rattle.vpf_featured.specs.Inner.LoadLaws.{no_fault}
use Rattle.vpf_featured.proofs.loading.load_featured.Goals as goal

pub returns-in_err-coverage-clause-told : goal.returns-in_err-coverage-clause-told
returns-in_err-coverage-clause-told g c =
    let p = err_from_is_err_and c.from_residual.result c.from_residual.ensures.1 in
    rw (p.1, p.2) (λ held e. coverage_stops held c.args.lib.now c.args.cov.now c.args.loaded.now c.load_coverage_tables.new.loaded c.in_err-coverage.field-0.0
    (coverage_ends (read_coverage held c.args.lib.now c.args.cov.now c.args.loaded.now) c.in_err-coverage.field-0.0 c.load_coverage_tables.new.loaded
    (c.in_err-coverage.ensures.told held e) (c.in_err-coverage.ensures.counted held e)))

pub returns-in_err-features-clause-told : goal.returns-in_err-features-clause-told
returns-in_err-features-clause-told g c =
    let p = err_from_is_err_and c.from_residual-in_err-features.result c.from_residual-in_err-features.ensures.1 in
    rw (p.1, p.2) (λ held e.
    let came = coverage_comes c.args.lib.now c.args.cov.now c.in_ok-coverage.coverage (read_coverage held c.args.lib.now c.args.cov.now c.args.loaded.now) c.load_coverage_tables.new.loaded
    (c.in_ok-coverage.ensures.told held e) (c.in_ok-coverage.ensures.counted held e) (c.in_ok-coverage.ensures.held held e) in
    let named : c.as_str.result.now ≡ within c.args.lib.now c.args.cov.now = c.as_str.ensures.value ∙ c.in_ok-folder.ensures in
    features_stop held c.args.lib.now c.args.cov.now c.in_ok-coverage.coverage c.args.loaded.now c.load_coverage_tables.new.loaded c.load_features.new.loaded
    c.in_err-features.field-0.0 came
    (subst (λ (folder : List ℕ). ReadsStop c.in_err-features.field-0.0 c.load_features.new.loaded (read_schema held folder c.load_coverage_tables.new.loaded)) named
    (c.in_err-features.ensures.told held (c.load_coverage_tables.ensures.only.files ∙ e))))

pub returns-in_err-features-clause-stood : goal.returns-in_err-features-clause-stood
returns-in_err-features-clause-stood g c =
    let p = err_from_is_err_and c.from_residual-in_err-features.result c.from_residual-in_err-features.ensures.1 in
    rw (p.1, p.2) (λ h. c.in_err-features.ensures.stood (no_fault c.in_err-features.field-0.0 h) ∙ c.in_ok-coverage.ensures.only.stood (λ no. absurd cc))

pub returns-clause-told : goal.returns-clause-told
returns-clause-told g c held e =
    let came = coverage_comes c.args.lib.now c.args.cov.now c.in_ok-coverage.coverage (read_coverage held c.args.lib.now c.args.cov.now c.args.loaded.now) c.load_coverage_tables.new.loaded
    (c.in_ok-coverage.ensures.told held e) (c.in_ok-coverage.ensures.counted held e) (c.in_ok-coverage.ensures.held held e) in
    let named : c.as_str.result.now ≡ within c.args.lib.now c.args.cov.now = c.as_str.ensures.value ∙ c.in_ok-folder.ensures in
    both_read held c.args.lib.now c.args.cov.now (record { coverage = c.in_ok-coverage.coverage; features = c.in_ok-features.features })
    c.args.loaded.now c.load_coverage_tables.new.loaded c.load_features.new.loaded came
    (subst (λ (folder : List ℕ). ReadsValue (λ v S. AreSchemaFiles folder S v) c.in_ok-features.features c.load_features.new.loaded (read_schema held folder c.load_coverage_tables.new.loaded))
    named (c.in_ok-features.ensures.told held (c.load_coverage_tables.ensures.only.files ∙ e)))

pub returns-clause-are : goal.returns-clause-are
returns-clause-are g c =
    let named : c.as_str.result.now ≡ within c.args.lib.now c.args.cov.now = c.as_str.ensures.value ∙ c.in_ok-folder.ensures in
    both_are c.args.lib.now c.args.cov.now (record { coverage = c.in_ok-coverage.coverage; features = c.in_ok-features.features })
    c.in_ok-coverage.ensures.are (subst (λ (folder : List ℕ). AreOfSchema folder c.in_ok-features.features) named c.in_ok-features.ensures.are)
