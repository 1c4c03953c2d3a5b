-- What is read before a stop, or before the end, table by table.
use Rattle.std.proofs.Common.{◌∙◌}
use Rattle.std.proofs.lemmas.Result.{err_from_is_err_and}
use Rattle.vpf_library_files.proofs.loading.TileLemmas.{cnd_stops, end_stops, rest_comes, rng_stops}
use Rattle.vpf_library_files.proofs.loading.loading.tiles.load_rest.Goals as goal

pub returns-in_err-add_required-2-clause-reads : goal.returns-in_err-add_required-2-clause-reads
returns-in_err-add_required-2-clause-reads g c edg before adds =
    let p = err_from_is_err_and c.from_residual-in_err-add_required-2.result c.from_residual-in_err-add_required-2.ensures.1 in
    let stop = c.in_err-add_required-2.field-0.0 in
    let e1 = c.add_required.ensures.only.files in
    let fac = c.in_ok-add_required.ensures.reads in
    rw (p.1, p.2) (λ held e. rng_stops held c.args.folder.now c.args.loaded.now c.add_required.new.loaded c.add_required-2.new.loaded stop edg fac.value (fac.comes held e)
    (c.in_err-add_required-2.ensures.reads held (e1 ∙ e)))

pub returns-in_err-add_required-3-clause-reads : goal.returns-in_err-add_required-3-clause-reads
returns-in_err-add_required-3-clause-reads g c edg before adds =
    let p = err_from_is_err_and c.from_residual-in_err-add_required-3.result c.from_residual-in_err-add_required-3.ensures.1 in
    let stop = c.in_err-add_required-3.field-0.0 in
    let e1 = c.add_required.ensures.only.files in
    let e2 = c.add_required-2.ensures.only.files ∙ e1 in
    let fac = c.in_ok-add_required.ensures.reads in
    let rng = c.in_ok-add_required-2.ensures.reads in
    rw (p.1, p.2) (λ held e. cnd_stops held c.args.folder.now c.args.loaded.now c.add_required.new.loaded c.add_required-2.new.loaded c.add_required-3.new.loaded stop edg fac.value rng.value (fac.comes held e)
    (rng.comes held (e1 ∙ e)) (c.in_err-add_required-3.ensures.reads held (e2 ∙ e)))

pub returns-in_err-add_optional-clause-reads : goal.returns-in_err-add_optional-clause-reads
returns-in_err-add_optional-clause-reads g c edg before adds =
    let p = err_from_is_err_and c.from_residual-in_err-add_optional.result c.from_residual-in_err-add_optional.ensures.1 in
    let stop = c.in_err-add_optional.field-0.0 in
    let e1 = c.add_required.ensures.only.files in
    let e2 = c.add_required-2.ensures.only.files ∙ e1 in
    let e3 = c.add_required-3.ensures.only.files ∙ e2 in
    let fac = c.in_ok-add_required.ensures.reads in
    let rng = c.in_ok-add_required-2.ensures.reads in
    let cnd = c.in_ok-add_required-3.ensures.reads in
    rw (p.1, p.2) (λ held e. end_stops held c.args.folder.now c.args.loaded.now c.add_required.new.loaded c.add_required-2.new.loaded c.add_required-3.new.loaded c.add_optional.new.loaded stop
    edg fac.value rng.value cnd.value (fac.comes held e) (rng.comes held (e1 ∙ e)) (cnd.comes held (e2 ∙ e)) (c.in_err-add_optional.ensures.reads held (e3 ∙ e)))

pub returns-clause-reads : goal.returns-clause-reads
returns-clause-reads g c edg before adds =
    rest_comes (g.T.Tree.files c.args.tree.now) (g.T.Tree.files c.add_required.new.tree) (g.T.Tree.files c.add_required-2.new.tree) (g.T.Tree.files c.add_required-3.new.tree)
    c.args.folder.now c.args.loaded.now c.add_required.new.loaded c.add_required-2.new.loaded c.add_required-3.new.loaded c.add_optional.new.loaded before c.args.tables.now c.add_required.new.tables
    c.add_required-2.new.tables c.add_required-3.new.tables c.add_optional.new.tables edg c.in_ok-add_optional.field-0
    c.add_required.ensures.only.files c.add_required-2.ensures.only.files c.add_required-3.ensures.only.files adds
    c.in_ok-add_required.ensures.reads c.in_ok-add_required-2.ensures.reads c.in_ok-add_required-3.ensures.reads c.in_ok-add_optional.ensures.reads
