use Rattle.std.proofs.Common.{◌≡◌, ◌+◌, ◌-◌}
use Rattle.vpf_prims.specs.Coverages.{last_tile}
use Rattle.vpf_prims.specs.Primitives.{has_tables}
use Rattle.vpf_prims.specs.Libraries.{library_of}
use Rattle.vpf_cross.specs.CarriedLines.{first_passing}
use Rattle.vpf_cross.proofs.carried.first_tile.Given as goal

abbrev pub invariant-loop-t : goal.invariant-loop-t
invariant-loop-t l =
    first_passing (has_tables (library_of l.coverage)) l.t (last_tile l.coverage + 1 - l.t) ≡ first_passing (has_tables (library_of l.coverage)) 0 (last_tile l.coverage + 1)
