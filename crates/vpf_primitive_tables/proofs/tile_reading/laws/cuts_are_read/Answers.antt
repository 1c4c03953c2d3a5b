use Rattle.vpf_primitive_tables.proofs.tile_reading.TableLemmas.{library_read}
use Rattle.vpf_primitive_tables.proofs.tile_reading.laws.cuts_are_read.Goals as goal

pub returns : goal.returns
returns c = library_read
