use Rattle.vpf_tiler.proofs.tiled_features.SchemaNames.{no_schema_table}
use Rattle.vpf_tiler.proofs.tiled_features.laws.no_schema_table_is_made.Goals as goal

pub returns : goal.returns
returns c = no_schema_table
