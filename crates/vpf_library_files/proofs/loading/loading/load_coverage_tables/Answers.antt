use Rattle.vpf_library_files.proofs.loading.LoadLemmas.{load_are, load_counted, load_held, load_told}
use Rattle.vpf_library_files.proofs.loading.loading.load_coverage_tables.Goals as goal

pub returns-clause-told : goal.returns-clause-told
returns-clause-told g c = load_told c.args.lib.now c.args.cov.now (g.T.Tree.files c.args.tree.now) c.args.loaded.now c.load_tables.new.loaded c.load_tables.result c.load_tables.ensures.reads

pub returns-clause-counted : goal.returns-clause-counted
returns-clause-counted g c = load_counted c.args.lib.now c.args.cov.now (g.T.Tree.files c.args.tree.now) c.args.loaded.now c.load_tables.new.loaded c.load_tables.result c.load_tables.ensures.reads

pub returns-clause-held : goal.returns-clause-held
returns-clause-held g c = load_held c.args.lib.now c.args.cov.now (g.T.Tree.files c.args.tree.now) c.args.loaded.now c.load_tables.new.loaded c.load_tables.result c.load_tables.ensures.reads

pub returns-clause-are : goal.returns-clause-are
returns-clause-are g c = load_are c.args.lib.now c.args.cov.now (g.T.Tree.files c.args.tree.now) c.args.loaded.now c.load_tables.new.loaded c.load_tables.result c.load_tables.ensures.reads
