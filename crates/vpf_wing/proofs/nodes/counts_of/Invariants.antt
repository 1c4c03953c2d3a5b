use Rattle.std.proofs.Common.{◌≡◌, ◌≤◌, ◌+◌, ℕ, length, drop, get_or}
use Rattle.vpf_darts.specs.Cycles.{count_of}
use Rattle.vpf_wing.proofs.nodes.counts_of.Given as goal

abbrev pub invariant-loop-node : goal.invariant-loop-node
invariant-loop-node l = record {
  room : length l.counts.items ≡ l.last + 1;
  counts : (node : ℕ) → get_or l.counts.items node 0 + count_of node (drop l.node-index l.nodes) ≡ count_of node l.nodes;
  few : (node : ℕ) → get_or l.counts.items node 0 ≤ l.node-index;
}
