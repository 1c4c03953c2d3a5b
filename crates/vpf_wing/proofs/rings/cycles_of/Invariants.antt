use Rattle.std.proofs.Common.{◌≡◌, ◌≤◌, ◌*◌, map, take, length}
use Rattle.std.specs.Prelude.{All}
use Rattle.vpf_wing.specs.CycleLines.{ring_cycle}
use Rattle.vpf_wing.proofs.rings.cycles_of.Given as goal

abbrev pub invariant-loop-ring : goal.invariant-loop-ring
invariant-loop-ring l = record {
  places : l.places.items ≡ map (ring_cycle l.cycles) (take l.ring-index l.rings);
  len : length l.places.items ≡ l.ring-index;
  within : All (λ place. place ≤ 2 * length l.cycles) l.places.items;
}
