use Rattle.std.proofs.Common.{◌≡◌}
use Rattle.vpf_prims.specs.Libraries.{in_tiles}
use Rattle.vpf_cross.specs.HomeLines.{homes_finding}
use Rattle.vpf_cross.proofs.LoopLemmas.{tiles_left}
use Rattle.vpf_cross.proofs.tiles.check_all_homes.Given as goal

abbrev pub invariant-loop-t : goal.invariant-loop-t
invariant-loop-t l = tiles_left (homes_finding l.followed) l.t l.followed ≡ in_tiles (homes_finding l.followed) l.followed
