use Rattle.std.proofs.Common.{◌≡◌, ◌∙◌, ℕ, List, Result, Err, arith, ap, subst}
use Rattle.std.proofs.lemmas.Result.{err_from_is_err_and}
use Rattle.vpf_base.proofs.Results.{no_ok}
use Rattle.vpf_source.specs.Causes.{Rose}
use Rattle.vpf_library_files.specs.declared.loading.loading.LoadStop.{LoadStop}
use Rattle.vpf_library_files.specs.declared.loading.loading.LoadStop.TheVariants as stops
use Rattle.vpf_feature_files.specs.declared.files.FeatureFiles.{FeatureFiles}
use Rattle.vpf_featured.specs.declared.loading.FeaturedFiles.{FeaturedFiles}
use Rattle.vpf_library_files.specs.Loading.Loading.{within}
use Rattle.vpf_tiling.specs.Plan.Untiled.{read_untiled}
use Rattle.vpf_library_files.specs.Loading.Loads.{ReadsStop, ReadsValue}
use Rattle.vpf_feature_files.specs.Inner.Held.{AreOfSchema, AreSchemaFiles}
use Rattle.vpf_feature_files.specs.Reading.{read_schema}
use Rattle.vpf_library_commands.proofs.TileLoads.{both_are, both_read, coverage_stops, features_stop, untiled_comes, untiled_ends}
use Rattle.vpf_library_commands.proofs.tiling.load_untiled_featured.Goals as goal

pub returns-in_err-coverage-clause-told : goal.returns-in_err-coverage-clause-told
returns-in_err-coverage-clause-told g c =
    let p = err_from_is_err_and c.from_residual.result c.from_residual.ensures.1 in
    rw (p.1, p.2) (λ held e. coverage_stops held c.args.lib.now c.args.cov.now c.args.loaded.now c.load_untiled.new.loaded c.in_err-coverage.field-0.0
    (untiled_ends (read_untiled held c.args.lib.now c.args.cov.now c.args.loaded.now) c.in_err-coverage.field-0.0 c.load_untiled.new.loaded
    (c.in_err-coverage.ensures.told held e) (c.in_err-coverage.ensures.counted held e)))

pub returns-in_err-features-clause-told : goal.returns-in_err-features-clause-told
returns-in_err-features-clause-told g c =
    let p = err_from_is_err_and c.from_residual-in_err-features.result c.from_residual-in_err-features.ensures.1 in
    rw (p.1, p.2) (λ held e.
    let came = untiled_comes c.args.lib.now c.args.cov.now c.in_ok-coverage.coverage (read_untiled held c.args.lib.now c.args.cov.now c.args.loaded.now) c.load_untiled.new.loaded
    (c.in_ok-coverage.ensures.told held e) (c.in_ok-coverage.ensures.counted held e) (c.in_ok-coverage.ensures.held held e) in
    let named : c.as_str.result.now ≡ within c.args.lib.now c.args.cov.now = c.as_str.ensures.value ∙ c.in_ok-folder.ensures in
    features_stop held c.args.lib.now c.args.cov.now c.in_ok-coverage.coverage c.args.loaded.now c.load_untiled.new.loaded c.load_features.new.loaded
    c.in_err-features.field-0.0 came
    (subst (λ (folder : List ℕ). ReadsStop c.in_err-features.field-0.0 c.load_features.new.loaded (read_schema held folder c.load_untiled.new.loaded)) named
    (c.in_err-features.ensures.told held (c.load_untiled.ensures.only.files ∙ e))))

pub returns-clause-told : goal.returns-clause-told
returns-clause-told g c held e =
    let came = untiled_comes c.args.lib.now c.args.cov.now c.in_ok-coverage.coverage (read_untiled held c.args.lib.now c.args.cov.now c.args.loaded.now) c.load_untiled.new.loaded
    (c.in_ok-coverage.ensures.told held e) (c.in_ok-coverage.ensures.counted held e) (c.in_ok-coverage.ensures.held held e) in
    let named : c.as_str.result.now ≡ within c.args.lib.now c.args.cov.now = c.as_str.ensures.value ∙ c.in_ok-folder.ensures in
    both_read held c.args.lib.now c.args.cov.now (record { coverage = c.in_ok-coverage.coverage; features = c.in_ok-features.features })
    c.args.loaded.now c.load_untiled.new.loaded c.load_features.new.loaded came
    (subst (λ (folder : List ℕ). ReadsValue (λ v S. AreSchemaFiles folder S v) c.in_ok-features.features c.load_features.new.loaded (read_schema held folder c.load_untiled.new.loaded))
    named (c.in_ok-features.ensures.told held (c.load_untiled.ensures.only.files ∙ e)))

pub returns-clause-are : goal.returns-clause-are
returns-clause-are g c =
    let named : c.as_str.result.now ≡ within c.args.lib.now c.args.cov.now = c.as_str.ensures.value ∙ c.in_ok-folder.ensures in
    both_are c.args.lib.now c.args.cov.now (record { coverage = c.in_ok-coverage.coverage; features = c.in_ok-features.features })
    c.in_ok-coverage.ensures.are (subst (λ (folder : List ℕ). AreOfSchema folder c.in_ok-features.features) named c.in_ok-features.ensures.are)

-- a stop of one load stops another so
abbrev stopped_by : (V : Type 0) → LoadStop → Result V LoadStop
stopped_by V stop = Err stop

stops_both : (V W : Type 0) (stop fault : LoadStop) → stopped_by V stop ≡ stopped_by V fault → stopped_by W stop ≡ stopped_by W fault
stops_both V W stop fault e = let same : stop ≡ fault = cc in ap (stopped_by W) same

pub returns-in_err-features-clause-only : goal.returns-in_err-features-clause-only
returns-in_err-features-clause-only g c =
    let p = err_from_is_err_and c.from_residual-in_err-features.result c.from_residual-in_err-features.ensures.1 in
    let first = c.in_ok-coverage.ensures.only.stood (λ e. no_ok c.in_ok-coverage.coverage stops.Fault e) in
    rw (p.1, p.2) (record {
      files = c.load_features.ensures.files ∙ c.load_untiled.ensures.only.files;
      later = omega (arith, c.load_features.ensures.later, c.load_untiled.ensures.only.later);
      fault = λ failed. subst (λ (n : ℕ). Rose n (g.T.Tree.faults c.load_features.new.tree)) first (c.in_err-features.ensures.fault (stops_both FeaturedFiles FeatureFiles c.in_err-features.field-0.0 stops.Fault failed));
      stood = λ fine. c.in_err-features.ensures.stood (λ failed. fine (stops_both FeatureFiles FeaturedFiles c.in_err-features.field-0.0 stops.Fault failed)) ∙ first;
      rising = omega (arith, c.load_features.ensures.rising, c.load_untiled.ensures.only.rising);
      most = c.load_features.ensures.most;
    })
