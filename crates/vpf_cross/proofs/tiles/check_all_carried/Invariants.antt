use Rattle.std.proofs.Common.{◌≡◌}
use Rattle.vpf_prims.specs.Libraries.{in_tiles, library_of}
use Rattle.vpf_cross.specs.CarriedLines.{carried_finding}
use Rattle.vpf_cross.proofs.LoopLemmas.{tiles_left}
use Rattle.vpf_cross.proofs.tiles.check_all_carried.Given as goal

abbrev pub invariant-loop-t : goal.invariant-loop-t
invariant-loop-t l = tiles_left (carried_finding (library_of l.coverage)) l.t l.coverage ≡ in_tiles (carried_finding (library_of l.coverage)) l.coverage
