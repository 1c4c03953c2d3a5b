use Rattle.std.proofs.Common.{◌≡◌, ◌+◌, ◌*◌, ◌≤◌, ◌^◌, length, map, drop}
use Rattle.vpf_theme_build.specs.Grouping.{entry_in}
use Rattle.vpf_theme_build.specs.Text.{all_data, index_len}
use Rattle.vpf_theme_build.proofs.building.index_len.Given as goal

abbrev pub invariant-loop-group : goal.invariant-loop-group
invariant-loop-group l = record {
  len : l.len + length (all_data l.layout (map (entry_in l.spots) (drop l.group-index l.groups))) ≡ index_len l.layout (map (entry_in l.spots) l.groups);
  small : l.len ≤ 2 ^ 63 + 2 ^ 36 + l.group-index * 2 ^ 27;
}
