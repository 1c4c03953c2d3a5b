use Rattle.vpf_feature_writing.proofs.feature_reading.WrittenNames.{read_lacks_tables, written_lacks_edges, written_lacks_tables}
use Rattle.vpf_feature_writing.proofs.feature_reading.laws.written_names.Goals as goal

pub returns-clause-read : goal.returns-clause-read
returns-clause-read c = read_lacks_tables c.features_are_held.ensures.read

pub returns-clause-tables : goal.returns-clause-tables
returns-clause-tables c = written_lacks_tables c.features_are_held.ensures.read

pub returns-clause-edges : goal.returns-clause-edges
returns-clause-edges c = written_lacks_edges c.features_are_held.ensures.read c.read_is_spelled.ensures
