use Rattle.std.proofs.Common.{◌≡◌, Some, drop}
use Rattle.vpf_table.specs.Inner.Widths.{add_width, width_of}
use Rattle.vpf_table.proofs.walking.row_width.Given as goal

abbrev pub invariant-loop-i : goal.invariant-loop-i
invariant-loop-i l = add_width (Some l.sum) (width_of (drop l.i l.header.columns)) ≡ width_of l.header.columns
