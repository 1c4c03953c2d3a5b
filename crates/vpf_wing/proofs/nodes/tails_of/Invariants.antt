use Rattle.std.proofs.Common.{◌≡◌, ◌++◌, drop}
use Rattle.vpf_wing.specs.Places.{tails}
use Rattle.vpf_wing.proofs.nodes.tails_of.Given as goal

abbrev pub invariant-loop-edge : goal.invariant-loop-edge
invariant-loop-edge l = l.nodes.items ++ tails (drop l.edge-index l.edges) ≡ tails l.edges
