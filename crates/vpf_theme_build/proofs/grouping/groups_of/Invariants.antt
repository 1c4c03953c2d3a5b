use Rattle.std.proofs.Common.{◌≡◌, ◌≤◌, ◌<◌, ◌+◌, ◌++◌, ℕ, length, map, drop}
use Rattle.std.specs.Prelude.{All}
use Rattle.vpf_theme_build.specs.declared.grouping.Spot.{Spot}
use Rattle.vpf_theme_build.specs.Grouping.{IsGroup, entry_in, grouped, seen, value_at}
use Rattle.vpf_theme_build.proofs.grouping.groups_of.Given as goal

abbrev pub invariant-loop-i : goal.invariant-loop-i
invariant-loop-i l = record {
  entries : map (entry_in l.spots) l.groups.items ++ grouped (map seen (drop l.start l.spots)) ≡ grouped (map seen l.spots);
  within : All (IsGroup l.spots) l.groups.items;
  before : l.start ≤ l.i;
  same : (k : ℕ) (d : Spot) → l.start ≤ k → k < l.i → value_at l.spots k d ≡ value_at l.spots (k + 1) d;
  last : l.i ≡ length l.spots → l.start ≡ l.i;
}
