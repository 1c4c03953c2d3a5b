use Rattle.vpf_feature_writing.proofs.feature_reading.SchemaLemmas.{written_again}
use Rattle.vpf_feature_writing.proofs.feature_reading.laws.written_are_read.Goals as goal

pub returns : goal.returns
returns c = written_again (record {
  read = c.opened_is_read.ensures;
  spelled = c.read_is_spelled.ensures;
  writable = c.read_is_writable.ensures;
}) (record {
  tables = record { again = c.written_is_read.ensures.read_again; opened = c.written_is_read.ensures.opened_again };
  indexes = c.built_indexes_are_read.ensures;
})
