use Rattle.std.proofs.Common.{◌≡◌, ◌++◌, map, drop}
use Rattle.vpf_theme_build.specs.Grouping.{entry_in}
use Rattle.vpf_theme_build.specs.Text.{all_data}
use Rattle.vpf_theme_build.proofs.building.put_all_data.Given as goal

abbrev pub invariant-loop-group : goal.invariant-loop-group
invariant-loop-group l = l.out.items ++ all_data l.layout (map (entry_in l.spots) (drop l.group-index l.groups)) ≡ l.fn.out.items ++ all_data l.layout (map (entry_in l.spots) l.groups)
