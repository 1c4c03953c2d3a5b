use Rattle.vpf_feature_commands.proofs.classes.ServingLemmas.{asked_same}
use Rattle.vpf_feature_commands.proofs.classes.laws.indexes_serve.Goals as goal

pub returns : goal.returns
returns c coverage S class name word serve =
    asked_same c.indexed_selection_is_the_scan.ensures.column c.agreement_is_no_finding.ensures.none coverage S class name word serve
