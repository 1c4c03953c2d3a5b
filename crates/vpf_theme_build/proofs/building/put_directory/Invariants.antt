use Rattle.std.proofs.Common.{◌≡◌, ◌+◌, ◌++◌, length, map, drop}
use Rattle.vpf_theme_build.specs.Grouping.{entry_in}
use Rattle.vpf_theme_build.specs.Text.{all_data, directory_text}
use Rattle.vpf_theme_build.proofs.building.put_directory.Given as goal

abbrev pub invariant-loop-group : goal.invariant-loop-group
invariant-loop-group l = record {
  out : l.out.items ++ directory_text l.layout l.behind (map (entry_in l.spots) (drop l.group-index l.groups)) ≡ l.fn.out.items ++ directory_text l.layout l.at (map (entry_in l.spots) l.groups);
  room : l.behind + length (all_data l.layout (map (entry_in l.spots) (drop l.group-index l.groups))) ≡ l.at + length (all_data l.layout (map (entry_in l.spots) l.groups));
}
