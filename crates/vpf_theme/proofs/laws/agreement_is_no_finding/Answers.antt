use Rattle.vpf_theme.proofs.AgreementLemmas.{agrees_from_none, none_from_agrees}
use Rattle.vpf_theme.proofs.laws.agreement_is_no_finding.Goals as goal

pub returns-clause-agrees : goal.returns-clause-agrees
returns-clause-agrees c = agrees_from_none

pub returns-clause-none : goal.returns-clause-none
returns-clause-none c = none_from_agrees
