use Rattle.vpf_features.proofs.feature_agreement.FeatureTables.{features_decided}
use Rattle.vpf_features.proofs.feature_agreement.laws.features_decide.Goals as goal

pub returns : goal.returns
returns c = features_decided c.agreement_is_no_finding.ensures.agrees c.agreement_is_no_finding.ensures.none
