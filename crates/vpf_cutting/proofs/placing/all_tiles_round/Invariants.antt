use Rattle.std.proofs.Common.{◌≡◌, Some, map, take}
use Rattle.vpf_prims.specs.Primitives.{entities_in}
use Rattle.vpf_prims.specs.Reading.{primitives_of}
use Rattle.vpf_cutting.specs.Inner.Cuts.{plan_by}
use Rattle.vpf_cutting.specs.Inner.Sides.{tile_round}
use Rattle.vpf_cutting.proofs.placing.all_tiles_round.Given as goal

abbrev pub invariant-loop-k : goal.invariant-loop-k
invariant-loop-k l = l.places.items ≡ map (tile_round (plan_by l.plan)) (take l.k (entities_in (Some (primitives_of l.tile.tables))))
