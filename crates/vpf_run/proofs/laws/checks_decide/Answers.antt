use Rattle.vpf_run.proofs.CheckedAnswers.{agreement_said, only_agreement}
use Rattle.vpf_run.proofs.laws.checks_decide.Goals as goal

pub returns-clause-said : goal.returns-clause-said
returns-clause-said c = agreement_said c.check_decides_agreement.ensures.counts

pub returns-clause-only : goal.returns-clause-only
returns-clause-only c = only_agreement c.check_decides_agreement.ensures.decides
