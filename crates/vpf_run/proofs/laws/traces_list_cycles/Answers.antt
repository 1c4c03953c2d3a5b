use Rattle.vpf_run.proofs.laws.traces_list_cycles.Goals as goal

pub returns-clause-said : goal.returns-clause-said
returns-clause-said c = c.trace_lists_cycles.ensures.lists

pub returns-clause-only : goal.returns-clause-only
returns-clause-only c files request answer bytes is done = (c.trace_lists_cycles.ensures.decides files request answer bytes is).0 done

pub returns-clause-some : goal.returns-clause-some
returns-clause-some c = c.trace_lists_cycles.ensures.some
