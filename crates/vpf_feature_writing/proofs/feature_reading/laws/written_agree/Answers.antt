use Rattle.vpf_feature_writing.proofs.feature_reading.RebuiltLemmas.{written_agrees}
use Rattle.vpf_feature_writing.proofs.feature_reading.laws.written_agree.Goals as goal

pub returns : goal.returns
returns c = written_agrees c.built_indexes_agree.ensures (record {
  read = c.opened_is_read.ensures;
  spelled = c.read_is_spelled.ensures;
  writable = c.read_is_writable.ensures;
})
