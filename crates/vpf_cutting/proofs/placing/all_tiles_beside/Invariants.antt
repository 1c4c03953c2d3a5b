use Rattle.std.proofs.Common.{◌≡◌, map, take}
use Rattle.vpf_prims.specs.Reading.{primitives_of}
use Rattle.vpf_cutting.specs.Inner.Cuts.{plan_by}
use Rattle.vpf_cutting.specs.Inner.Sides.{tiles_beside}
use Rattle.vpf_cutting.proofs.placing.all_tiles_beside.Given as goal

abbrev pub invariant-loop-k : goal.invariant-loop-k
invariant-loop-k l = l.sides.items ≡ map (tiles_beside (plan_by l.plan)) (take l.k ((primitives_of l.tile.tables).edges))
