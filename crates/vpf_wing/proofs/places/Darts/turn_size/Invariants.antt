use Rattle.std.proofs.Common.{◌≡◌, ◌<◌, ◌+◌, ◌-◌, ◌*◌, length}
use Rattle.vpf_wing.specs.Places.{steps_back, turn_place, turn_size}
use Rattle.vpf_wing.proofs.places.Darts.turn_size.Given as goal

abbrev pub invariant-loop-k : goal.invariant-loop-k
invariant-loop-k l = record {
  inside : l.at < length l.self-inside.nexts.items;
  steps : l.k + steps_back (turn_place l.self) l.start (2 * length l.self - l.k) l.at ≡ turn_size l.self l.start;
}
