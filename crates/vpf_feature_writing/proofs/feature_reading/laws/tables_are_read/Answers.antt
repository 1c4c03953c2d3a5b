use Rattle.vpf_feature_writing.proofs.feature_reading.OwnFiles.{tables_are_read}
use Rattle.vpf_feature_writing.proofs.feature_reading.laws.tables_are_read.Goals as goal

pub returns : goal.returns
returns c = tables_are_read (record {
  read = c.opened_is_read.ensures;
  spelled = c.read_is_spelled.ensures;
  writable = c.read_is_writable.ensures;
})
