use Rattle.std.proofs.Common.{◌≡◌, ◌++◌, drop, string_bytes}
use Rattle.vpf_table_commands.specs.Show.{column_lines}
use Rattle.vpf_table_commands.proofs.showing.put_columns.Given as goal

abbrev pub invariant-loop-c : goal.invariant-loop-c
invariant-loop-c l = string_bytes l.text ++ column_lines l.c (drop l.c l.header.columns) ≡ string_bytes l.fn.text ++ column_lines 0 l.header.columns
