use Rattle.std.proofs.Common.{◌≡◌, drop}
use Rattle.vpf_glue.specs.GluedTables.Grids.{first_end}
use Rattle.vpf_glue.proofs.sources.first_end_of.Given as goal

abbrev pub invariant-loop-t : goal.invariant-loop-t
invariant-loop-t l = first_end (drop l.t l.coverage.tiles) ≡ first_end l.coverage.tiles
