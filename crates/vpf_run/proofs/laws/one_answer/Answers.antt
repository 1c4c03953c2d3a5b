use Rattle.vpf_run.proofs.Answering.{has_answer, one_answer}
use Rattle.vpf_run.proofs.laws.one_answer.Goals as goal

pub returns-clause-some : goal.returns-clause-some
returns-clause-some c = has_answer c.one_cycles_answer.ensures.some c.trace_lists_cycles.ensures.some c.one_drill.ensures.some c.requests_can_be_asked.ensures

pub returns-clause-one : goal.returns-clause-one
returns-clause-one c = one_answer c.one_cycles_answer.ensures.one c.trace_lists_cycles.ensures.one c.one_drill.ensures.one
