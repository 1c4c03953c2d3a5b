use Rattle.vpf_tiling.proofs.plan.UntiledLemmas.{untiled_are, untiled_counted, untiled_coverage_are, untiled_held, untiled_told}
use Rattle.vpf_tiling.proofs.plan.untiled.load_untiled.Goals as goal

pub returns-clause-told : goal.returns-clause-told
returns-clause-told g c = untiled_told (g.T.Tree.files c.args.tree.now) c.args.lib.now c.args.cov.now c.args.loaded.now c.load_tables.new.loaded c.load_tables.result c.load_tables.ensures.reads

pub returns-clause-counted : goal.returns-clause-counted
returns-clause-counted g c = untiled_counted (g.T.Tree.files c.args.tree.now) c.args.lib.now c.args.cov.now c.args.loaded.now c.load_tables.new.loaded c.load_tables.result c.load_tables.ensures.reads

pub returns-clause-held : goal.returns-clause-held
returns-clause-held g c = untiled_held (g.T.Tree.files c.args.tree.now) c.args.lib.now c.args.cov.now c.args.loaded.now c.load_tables.new.loaded c.load_tables.result c.load_tables.ensures.reads

pub returns-clause-are : goal.returns-clause-are
returns-clause-are g c = untiled_are (g.T.Tree.files c.args.tree.now) c.args.lib.now c.args.cov.now c.args.loaded.now c.load_tables.new.loaded c.load_tables.result c.load_tables.ensures.reads

pub returns-clause-coverage : goal.returns-clause-coverage
returns-clause-coverage g c = untiled_coverage_are (g.T.Tree.files c.args.tree.now) c.args.lib.now c.args.cov.now c.args.loaded.now c.load_tables.new.loaded c.load_tables.result c.load_tables.ensures.reads
