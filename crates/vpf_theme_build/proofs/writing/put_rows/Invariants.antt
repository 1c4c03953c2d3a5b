use Rattle.std.proofs.Common.{◌≡◌, ◌++◌, map, drop}
use Rattle.vpf_theme_build.specs.Grouping.{spot_row}
use Rattle.vpf_theme.specs.Spelling.{row_numbers_text}
use Rattle.vpf_theme_build.proofs.writing.put_rows.Given as goal

abbrev pub invariant-loop-spot : goal.invariant-loop-spot
invariant-loop-spot l = l.out.items ++ row_numbers_text l.layout.order l.layout.row_size (map spot_row (drop l.spot-index l.spots)) ≡ l.fn.out.items ++ row_numbers_text l.layout.order l.layout.row_size (map spot_row l.spots)
