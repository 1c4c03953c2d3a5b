use Rattle.std.proofs.lemmas.Result.{err_from_is_err_and}
use Rattle.vpf_tiling.proofs.plan.UntiledLemmas.{folder_comes, folder_ends, folder_missing}
use Rattle.vpf_tiling.proofs.plan.untiled.load_tables.Goals as goal

pub returns-in_err-load_folder-clause-reads : goal.returns-in_err-load_folder-clause-reads
returns-in_err-load_folder-clause-reads g c =
    let p = err_from_is_err_and c.from_residual.result c.from_residual.ensures.1 in
    rw (p.1, p.2) (λ held e. folder_ends held c.args.lib.now c.args.cov.now c.args.loaded.now c.load_folder.new.loaded c.in_err-load_folder.field-0.0 (c.in_err-load_folder.ensures.reads held e))

pub returns-then-branch-clause-reads : goal.returns-then-branch-clause-reads
returns-then-branch-clause-reads g c =
    folder_comes (g.T.Tree.files c.args.tree.now) c.args.lib.now c.args.cov.now c.args.loaded.now c.load_folder.new.loaded c.new-tables.result
    c.load_folder.new.tables c.in_ok-load_folder.field-0 c.if-branch.true c.new-tables.ensures c.in_ok-load_folder.ensures.reads

pub returns-clause-reads : goal.returns-clause-reads
returns-clause-reads g c =
    folder_missing (g.T.Tree.files c.args.tree.now) c.args.lib.now c.args.cov.now c.in_ok-edges_name.field-0 c.args.loaded.now c.load_folder.new.loaded c.new-tables.result
    c.load_folder.new.tables c.in_ok-load_folder.field-0 c.if-branch.false c.in_ok-edges_name.ensures c.in_ok-load_folder.ensures.reads
