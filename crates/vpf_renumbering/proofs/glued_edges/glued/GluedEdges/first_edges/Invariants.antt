use Rattle.vpf_prims.specs.Libraries.{library_of}
use Rattle.vpf_tiling_laws.specs.Gluing.Whole.{whole_of}
use Rattle.vpf_renumbering.proofs.glued_edges.FirstLemmas.{AreFirsts}
use Rattle.vpf_renumbering.proofs.glued_edges.glued.GluedEdges.first_edges.Given as goal

abbrev pub invariant-loop-k : goal.invariant-loop-k
invariant-loop-k l = AreFirsts (whole_of (library_of l.self)) l.k l.firsts.items
