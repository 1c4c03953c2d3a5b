use Rattle.std.proofs.Common.{◌≡◌, map, take}
use Rattle.vpf_prims.specs.Reading.{primitives_of}
use Rattle.vpf_cutting.specs.Inner.Sides.{nodes_at}
use Rattle.vpf_cutting.proofs.placing.all_nodes_at.Given as goal

abbrev pub invariant-loop-k : goal.invariant-loop-k
invariant-loop-k l = l.ends.items ≡ map (nodes_at) (take l.k ((primitives_of l.tile.tables).edges))
