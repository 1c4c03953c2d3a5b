use Rattle.std.proofs.Common.{◌≡◌, take, length}
use Rattle.vpf_prims.specs.Reading.{primitives_of}
use Rattle.vpf_wing.specs.CycleLines.{own_rings}
use Rattle.vpf_wing.proofs.rings.rings_of.Given as goal

abbrev pub invariant-loop-k : goal.invariant-loop-k
invariant-loop-k l = record {
  rings : l.rings.items ≡ take l.k (own_rings (primitives_of l.tile.tables));
  len : length l.rings.items ≡ l.k;
}
