use Rattle.std.proofs.Common.{◌∙◌}
use Rattle.vpf_library_files.proofs.loading.TiledLemmas.{tiled_loads, untiled_comes}
use Rattle.vpf_library_files.proofs.loading.loading.load_tables.Goals as goal

pub returns-then-branch-clause-reads : goal.returns-then-branch-clause-reads
returns-then-branch-clause-reads g c =
    untiled_comes (g.T.Tree.files c.args.tree.now) c.args.lib.now c.args.cov.now c.args.loaded.now c.load_folder.new.loaded c.new-tables.result
    c.load_folder.new.tables c.in_ok-load_folder.field-0 c.if-branch.true c.new-tables.ensures c.in_ok-load_folder.ensures.reads

pub returns-clause-reads : goal.returns-clause-reads
returns-clause-reads g c =
    tiled_loads (g.T.Tree.files c.args.tree.now) (g.T.Tree.files c.load_folder.new.tree) c.args.lib.now c.args.cov.now c.args.loaded.now c.load_folder.new.loaded
    c.load_tiled.new.loaded c.new-tables.result c.load_folder.new.tables c.in_ok-load_folder.field-0 c.load_tiled.result c.load_folder.ensures.only.files
    c.if-branch.false c.in_ok-load_folder.ensures.reads (c.load_tiled.ensures.reads c.args.cov.now (c.as_str.ensures.value ∙ c.in_ok-folder.ensures))
