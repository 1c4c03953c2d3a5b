use Rattle.vpf_feature_files.proofs.laws.HeldFeatures.{held_schema_is_read}
use Rattle.vpf_feature_files.proofs.laws.ReadFeatures.{read_schema_is_held}
use Rattle.vpf_feature_files.proofs.laws.features_are_held.Goals as goal

pub returns-clause-held : goal.returns-clause-held
returns-clause-held c = held_schema_is_read (record {
  tables = record { opened = c.spelled_is_opened.ensures; again = c.opened_is_read.ensures };
  theme = c.spelled_is_read.ensures;
}) c.class_schemas_decide.ensures

pub returns-clause-read : goal.returns-clause-read
returns-clause-read c = read_schema_is_held (record {
  tables = record { spelled = c.opened_is_spelled.ensures; again = c.opened_is_read.ensures };
  theme = c.read_is_spelled.ensures;
}) c.class_schemas_decide.ensures
