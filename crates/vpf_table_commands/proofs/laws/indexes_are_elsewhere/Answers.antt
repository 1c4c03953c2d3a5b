use Rattle.vpf_table_commands.proofs.Elsewhere.{indexes_elsewhere}
use Rattle.vpf_table_commands.proofs.laws.indexes_are_elsewhere.Goals as goal

pub returns : goal.returns
returns c = indexes_elsewhere
