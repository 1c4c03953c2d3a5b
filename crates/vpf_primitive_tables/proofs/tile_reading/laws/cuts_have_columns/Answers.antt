use Rattle.vpf_primitive_tables.proofs.tile_reading.ColumnLemmas.{columns_made}
use Rattle.vpf_primitive_tables.proofs.tile_reading.laws.cuts_have_columns.Goals as goal

pub returns : goal.returns
returns c = columns_made
