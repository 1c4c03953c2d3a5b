use Rattle.std.proofs.Common.{◌≡◌, ◌∙◌, ℕ, List, subst}
use Rattle.std.proofs.lemmas.Result.{err_from_is_err_and}
use Rattle.std.specs.Prelude.{Ok}
use Rattle.vpf_source.specs.declared.file.File.{File}
use Rattle.vpf_library_files.specs.Loading.Loading.{LoadedTable}
use Rattle.vpf_library_files.specs.Loading.Loads.{ReadsStop, ReadsValue}
use Rattle.vpf_tiling.specs.Plan.PlanLoads.{AreOfPlan, ArePlanFiles, read_plan}
use Rattle.vpf_library_commands.specs.Tile.{plan_name}
use Rattle.vpf_library_commands.proofs.TileLoads.{featured_stops, parts_are, parts_read, plan_stops, tileref_stops}
use Rattle.vpf_featured.specs.Inner.LoadLaws.{no_fault}
use Rattle.vpf_library_commands.proofs.tiling.load_parts.Goals as goal

pub returns-in_err-featured-clause-told : goal.returns-in_err-featured-clause-told
returns-in_err-featured-clause-told g c =
    let p = err_from_is_err_and c.from_residual.result c.from_residual.ensures.1 in
    rw (p.1, p.2) (λ held e. featured_stops held c.args.lib.now c.args.cov.now c.args.loaded.now c.load_untiled_featured.new.loaded c.in_err-featured.field-0.0
    (c.in_err-featured.ensures.told held e))

pub returns-in_err-load_tileref-clause-told : goal.returns-in_err-load_tileref-clause-told
returns-in_err-load_tileref-clause-told g c =
    let p = err_from_is_err_and c.from_residual-in_err-load_tileref.result c.from_residual-in_err-load_tileref.ensures.1 in
    rw (p.1, p.2) (λ held e.
    let read = c.in_ok-featured.ensures.told held e in
    tileref_stops held c.args.lib.now c.args.cov.now read.value c.args.loaded.now c.load_untiled_featured.new.loaded c.load_tileref.new.loaded
    c.in_err-load_tileref.field-0.0 read.comes (c.in_err-load_tileref.ensures.reads held (c.load_untiled_featured.ensures.only.files ∙ e)))

pub returns-in_err-plan-clause-told : goal.returns-in_err-plan-clause-told
returns-in_err-plan-clause-told g c =
    let p = err_from_is_err_and c.from_residual-in_err-plan.result c.from_residual-in_err-plan.ensures.1 in
    rw (p.1, p.2) (λ held e.
    let read = c.in_ok-featured.ensures.told held e in
    let tiles = c.in_ok-load_tileref.ensures.reads in
    let named : c.as_str.result.now ≡ plan_name c.args.lib.now c.args.cov.now = c.as_str.ensures.value ∙ c.in_ok-name.ensures in
    plan_stops held c.args.lib.now c.args.cov.now read.value tiles.value c.args.loaded.now c.load_untiled_featured.new.loaded c.load_tileref.new.loaded
    c.load_plan.new.loaded c.in_err-plan.field-0.0 read.comes (tiles.comes held (c.load_untiled_featured.ensures.only.files ∙ e))
    (subst (λ (name : List ℕ). ReadsStop c.in_err-plan.field-0.0 c.load_plan.new.loaded (read_plan held name c.load_tileref.new.loaded)) named
    (c.in_err-plan.ensures.told held (c.load_tileref.ensures.files ∙ c.load_untiled_featured.ensures.only.files ∙ e))))

pub returns-in_err-plan-clause-stood : goal.returns-in_err-plan-clause-stood
returns-in_err-plan-clause-stood g c =
    let p = err_from_is_err_and c.from_residual-in_err-plan.result c.from_residual-in_err-plan.ensures.1 in
    rw (p.1, p.2) (λ h. c.in_err-plan.ensures.stood (no_fault c.in_err-plan.field-0.0 h) ∙ c.in_ok-load_tileref.ensures.stood (λ no. absurd cc) ∙ c.in_ok-featured.ensures.only.stood (λ no. absurd cc))

pub returns-clause-told : goal.returns-clause-told
returns-clause-told g c held e =
    let read = c.in_ok-featured.ensures.told held e in
    let tiles = c.in_ok-load_tileref.ensures.reads in
    let named : c.as_str.result.now ≡ plan_name c.args.lib.now c.args.cov.now = c.as_str.ensures.value ∙ c.in_ok-name.ensures in
    let there = c.load_tileref.ensures.files ∙ c.load_untiled_featured.ensures.only.files ∙ e in
    parts_read held c.args.lib.now c.args.cov.now (record { featured = c.in_ok-featured.featured; tileref = c.load_tileref.new.tables; plan = c.in_ok-plan.plan })
    c.in_ok-load_tileref.field-0 tiles.value c.args.loaded.now c.load_untiled_featured.new.loaded c.load_tileref.new.loaded c.load_plan.new.loaded read
    (tiles.comes held (c.load_untiled_featured.ensures.only.files ∙ e)) tiles.is
    (subst (λ (name : List ℕ). ReadsValue (λ (v : List File) (p : LoadedTable). p.files ≡ v) c.in_ok-plan.plan c.load_plan.new.loaded (read_plan held name c.load_tileref.new.loaded))
    named (c.in_ok-plan.ensures.told held there))
    (subst (λ (name : List ℕ). (p : LoadedTable) (j : ℕ) → read_plan held name c.load_tileref.new.loaded ≡ (Ok p, j) → ArePlanFiles name p.grid c.in_ok-plan.plan)
    named (c.in_ok-plan.ensures.held held there))

pub returns-clause-are : goal.returns-clause-are
returns-clause-are g c =
    let tiles = c.in_ok-load_tileref.ensures.reads in
    let named : c.as_str.result.now ≡ plan_name c.args.lib.now c.args.cov.now = c.as_str.ensures.value ∙ c.in_ok-name.ensures in
    parts_are c.args.lib.now c.args.cov.now (record { featured = c.in_ok-featured.featured; tileref = c.load_tileref.new.tables; plan = c.in_ok-plan.plan })
    c.in_ok-load_tileref.field-0 tiles.value c.in_ok-featured.ensures.are tiles.is
    (subst (λ (name : List ℕ). AreOfPlan name c.in_ok-plan.plan) named c.in_ok-plan.ensures.are)

pub returns-in_err-load_tileref-clause-stood : goal.returns-in_err-load_tileref-clause-stood
returns-in_err-load_tileref-clause-stood g c =
    let p = err_from_is_err_and c.from_residual-in_err-load_tileref.result c.from_residual-in_err-load_tileref.ensures.1 in
    rw (p.1, p.2) (λ h. c.in_err-load_tileref.ensures.stood (no_fault c.in_err-load_tileref.field-0.0 h) ∙ c.in_ok-featured.ensures.only.stood (λ no. absurd cc))

pub returns-in_err-name-clause-told : goal.returns-in_err-name-clause-told
returns-in_err-name-clause-told g c =
    let p = err_from_is_err_and c.from_residual-in_err-name.result c.from_residual-in_err-name.ensures.1 in
    rw (p.1, p.2) (λ held e. tt)
