use Rattle.std.proofs.Common.{◌≡◌}
use Rattle.vpf_wing.specs.CycleLines.{loops_finding}
use Rattle.vpf_prims.specs.Libraries.{in_tiles}
use Rattle.vpf_cross.proofs.LoopLemmas.{tiles_left}
use Rattle.vpf_cross.proofs.tiles.check_all_loops.Given as goal

abbrev pub invariant-loop-t : goal.invariant-loop-t
invariant-loop-t l = tiles_left loops_finding l.t l.coverage ≡ in_tiles loops_finding l.coverage
