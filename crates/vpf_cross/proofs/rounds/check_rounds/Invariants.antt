use Rattle.std.proofs.Common.{◌≡◌}
use Rattle.vpf_follow.specs.Libraries.{over_edges}
use Rattle.vpf_cross.specs.HomeLines.{coverage_links}
use Rattle.vpf_cross.specs.RoundLines.{round_lines}
use Rattle.vpf_cross.proofs.LoopLemmas.{edges_left}
use Rattle.vpf_cross.proofs.rounds.check_rounds.Given as goal

abbrev pub invariant-loop-k : goal.invariant-loop-k
invariant-loop-k l =
    edges_left (round_lines (coverage_links l.followed) l.number l.tile) l.k l.tile ≡ over_edges (round_lines (coverage_links l.followed) l.number l.tile) l.tile
