use Rattle.std.proofs.Common.{◌≡◌, take, length}
use Rattle.vpf_wing.specs.CycleLines.{faces_of_rings}
use Rattle.vpf_wing.proofs.rings.faces_of.Given as goal

abbrev pub invariant-loop-ring : goal.invariant-loop-ring
invariant-loop-ring l = record {
  faces : l.faces.items ≡ faces_of_rings (take l.ring-index l.rings);
  len : length l.faces.items ≡ l.ring-index;
}
