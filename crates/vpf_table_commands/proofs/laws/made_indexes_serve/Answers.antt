use Rattle.vpf_table_commands.proofs.MadeIndexes.{made_serve}
use Rattle.vpf_table_commands.proofs.laws.made_indexes_serve.Goals as goal

pub returns : goal.returns
returns c = made_serve c.built_indexes_serve.ensures
