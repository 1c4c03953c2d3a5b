use Rattle.std.proofs.Common.{◌≡◌}
use Rattle.vpf_prims.specs.Libraries.{in_tiles}
use Rattle.vpf_cross.specs.HomeLines.{coverage_links}
use Rattle.vpf_cross.specs.RoundLines.{rounds_finding}
use Rattle.vpf_cross.proofs.LoopLemmas.{tiles_left}
use Rattle.vpf_cross.proofs.tiles.check_all_rounds.Given as goal

abbrev pub invariant-loop-t : goal.invariant-loop-t
invariant-loop-t l = tiles_left (rounds_finding (coverage_links l.followed)) l.t l.followed ≡ in_tiles (rounds_finding (coverage_links l.followed)) l.followed
