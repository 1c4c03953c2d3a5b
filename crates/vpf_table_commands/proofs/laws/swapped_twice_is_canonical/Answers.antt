use Rattle.vpf_table_commands.proofs.SwappedTables.{swapped_twice}
use Rattle.vpf_table_commands.proofs.laws.swapped_twice_is_canonical.Goals as goal

pub returns : goal.returns
returns c = swapped_twice (record {
  writable = c.read_is_writable.ensures;
  read = c.written_is_read.ensures.read_again;
  limits = c.written_twice_is_canonical.ensures.limits;
  table = c.written_twice_is_canonical.ensures.table;
  index = c.written_twice_is_canonical.ensures.index;
})
