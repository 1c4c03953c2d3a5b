use Rattle.vpf_cutting.specs.Inner.Cuts.{plan_by}
use Rattle.vpf_tiler.proofs.tile_files.TileLemmas.{entities_fail}
use Rattle.vpf_tiler.proofs.tile_files.making.Making.add_entities.Goals as goal

pub returns-in-Err : goal.returns-in-Err
returns-in-Err c =
    entities_fail c.args.folder.now c.args.self.now.forms.end c.args.self.now.cut.now.source (plan_by c.args.self.now.cut.now.plan) c.args.tile c.in-Err.error
    c.args.files.now.items c.add_table-in-Err.new.files.items c.add_table-in-Err.result c.in-Err.ensures c.add_table-in-Err.ensures
