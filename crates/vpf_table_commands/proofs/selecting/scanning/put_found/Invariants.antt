use Rattle.std.proofs.Common.{◌≡◌, ◌++◌, take, string_bytes}
use Rattle.std.specs.List.{flat_map}
use Rattle.vpf_table_commands.specs.Rows.{found_line}
use Rattle.vpf_table_commands.proofs.selecting.scanning.put_found.Given as goal

abbrev pub invariant-loop-row : goal.invariant-loop-row
invariant-loop-row l = string_bytes l.text ≡ string_bytes l.initial.text ++ flat_map found_line (take l.row-index l.rows)
