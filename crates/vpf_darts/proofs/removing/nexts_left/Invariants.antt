use Rattle.std.proofs.Common.{◌≡◌, ℕ, ◌+◌, ◌<◌, length}
use Rattle.std.specs.List.{All}
use Rattle.vpf_darts.specs.Maps.{without}
use Rattle.vpf_darts.specs.MapLists.{IsInRange, dart_map, edges_of, list_next}
use Rattle.vpf_darts.proofs.removing.nexts_left.Given as goal

abbrev pub invariant-loop-place : goal.invariant-loop-place
invariant-loop-place l = record {
  pushed : length l.nexts.items ≡ l.place;
  in_range : All (IsInRange (length l.kept.map.now.next)) l.nexts.items;
  left : (d : ℕ) → d < l.place + 2 → list_next l.nexts.items d ≡ (without (dart_map l.kept.map.now) (edges_of l.kept.lines.now)).next d;
}
