use Rattle.vpf_feature_files.proofs.laws.ColumnLemmas.{class_schemas_decide}
use Rattle.vpf_feature_files.proofs.laws.class_schemas_decide.Goals as goal

pub returns : goal.returns
returns c = class_schemas_decide
