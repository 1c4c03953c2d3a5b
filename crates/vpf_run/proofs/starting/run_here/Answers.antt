use Rattle.vpf_run.proofs.DrilledAnswers.{run_tells_usage}
use Rattle.vpf_run.proofs.starting.run_here.Goals as goal

pub returns-clause-usage : goal.returns-clause-usage
returns-clause-usage g c none = run_tells_usage _ _ _ _ _ none (c.run-status.ensures.usage none) c.run-status.ensures.answer
