use Rattle.std.proofs.Common.{[], sym}
use Rattle.vpf_prims.specs.Inner.ItemLaws.{item_found}
use Rattle.vpf_cross.proofs.carrying.row_counted.Goals as goal

pub returns-clause-row : goal.returns-clause-row
returns-clause-row g c = sym (item_found c.args.table.now.rows c.args.k [] c.row.result c.requires.row.0 c.row.ensures.row)
