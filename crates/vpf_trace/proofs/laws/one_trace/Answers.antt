use Rattle.vpf_trace.proofs.LineLemmas.{one_trace, trace_without_lines}
use Rattle.vpf_trace.proofs.AgreeLemmas.{has_trace}
use Rattle.vpf_trace.proofs.laws.one_trace.Goals as goal

pub returns-clause-some : goal.returns-clause-some
returns-clause-some c = has_trace c.homes_exist.ensures c.removal_leaves_a_map.ensures.listing

pub returns-clause-one : goal.returns-clause-one
returns-clause-one c = one_trace c.one_listing.ensures.one

pub returns-clause-plain : goal.returns-clause-plain
returns-clause-plain c = trace_without_lines
