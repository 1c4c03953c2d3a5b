use Rattle.std.proofs.Common.{◌≡◌}
use Rattle.vpf_follow.specs.Libraries.{over_edges}
use Rattle.vpf_cross.specs.HomeLines.{copies_lines}
use Rattle.vpf_cross.proofs.LoopLemmas.{edges_left}
use Rattle.vpf_cross.proofs.homes.check_homes.Given as goal

abbrev pub invariant-loop-k : goal.invariant-loop-k
invariant-loop-k l = edges_left (copies_lines l.followed l.number l.tile) l.k l.tile ≡ over_edges (copies_lines l.followed l.number l.tile) l.tile
