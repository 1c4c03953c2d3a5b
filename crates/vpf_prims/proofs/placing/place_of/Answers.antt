use Rattle.vpf_prims.specs.Inner.ColumnLaws.{place_within}
use Rattle.vpf_prims.proofs.placing.place_of.Goals as goal

pub returns-clause-within : goal.returns-clause-within
returns-clause-within c = rw c.column.ensures (place_within c.args.name.now c.args.header.now.columns)
