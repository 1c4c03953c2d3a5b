use Rattle.std.proofs.Common.{◌≡◌, length, take, Some}
use Rattle.vpf_table.specs.Inner.Offsets.{AreOffsets}
use Rattle.vpf_table.specs.Inner.Widths.{width_of}
use Rattle.vpf_table.proofs.placed_header.PlacedHeader.offsets_of.Given as goal

abbrev pub invariant-loop-c : goal.invariant-loop-c
invariant-loop-c l = record {
  are : AreOffsets l.header.columns l.offsets.items;
  each : length l.offsets.items ≡ l.c;
  width : width_of (take l.c l.header.columns) ≡ Some l.offset;
}
