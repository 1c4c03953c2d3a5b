use Rattle.std.proofs.Common.{◌≡◌}
use Rattle.vpf_prims.specs.Libraries.{in_tiles}
use Rattle.vpf_follow.specs.SideLines.{sides_finding}
use Rattle.vpf_cross.proofs.LoopLemmas.{tiles_left}
use Rattle.vpf_cross.proofs.tiles.check_all_sides.Given as goal

abbrev pub invariant-loop-t : goal.invariant-loop-t
invariant-loop-t l = tiles_left sides_finding l.t l.coverage ≡ in_tiles sides_finding l.coverage
