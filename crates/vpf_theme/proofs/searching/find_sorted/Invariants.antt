use Rattle.std.proofs.Common.{◌≤◌, ◌-◌, ◌+◌, ◌*◌, ◌^◌}
use Rattle.vpf_value.specs.Values.{view}
use Rattle.vpf_theme.proofs.ComparedLemmas.{Halved}
use Rattle.vpf_theme.proofs.SearchLemmas.{Below, Above}
use Rattle.vpf_theme.proofs.searching.find_sorted.Given as goal

abbrev pub invariant-loop-low : goal.invariant-loop-low
invariant-loop-low g l = record {
  order : l.low ≤ l.high;
  inside : l.high ≤ l.layout.entries;
  below : Below l.layout l.bytes (view l.value) l.low;
  above : Above l.layout l.bytes (view l.value) l.high;
  more : l.fn.steps ≤ l.steps;
  left : 2 ^ (l.steps - l.fn.steps) * (l.high - l.low) ≤ l.layout.entries;
  cost : 2 ^ (l.steps - l.fn.steps) ≤ 2 * l.layout.entries + 1;
  halved : Halved l.layout l.bytes (view l.value) (l.steps - l.fn.steps) l.low l.high;
}

abbrev pub decreases-loop-low : goal.decreases-loop-low
decreases-loop-low g l = l.high - l.low
