use Rattle.vpf_glue.proofs.glued_reading.EntityLemmas.{glued_tables_are_read}
use Rattle.vpf_glue.proofs.glued_reading.laws.glued_tables_are_read.Goals as goal

pub returns : goal.returns
returns c = glued_tables_are_read
