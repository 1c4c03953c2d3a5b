use Rattle.vpf_trace.proofs.AgreeLemmas.{has_kept, has_lines}
use Rattle.vpf_trace.proofs.laws.lines_leave_a_map.Goals as goal

pub returns-clause-lines : goal.returns-clause-lines
returns-clause-lines c = has_lines c.homes_exist.ensures

pub returns-clause-kept : goal.returns-clause-kept
returns-clause-kept c = has_kept c.homes_exist.ensures c.removal_leaves_a_map.ensures.map
