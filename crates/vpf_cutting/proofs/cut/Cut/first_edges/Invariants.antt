use Rattle.vpf_cutting.specs.Inner.Cuts.{plan_by}
use Rattle.vpf_cutting.proofs.FirstLemmas.{AreFirsts}
use Rattle.vpf_cutting.proofs.cut.Cut.first_edges.Given as goal

abbrev pub invariant-loop-k : goal.invariant-loop-k
invariant-loop-k l = AreFirsts l.self.source (plan_by l.self.plan) l.tile l.k l.firsts.items
