use Rattle.std.proofs.Common.{◌≡◌, ◌≤◌, ◌+◌, drop}
use Rattle.vpf_prims.specs.Reading.{primitives_of}
use Rattle.vpf_drill.specs.Counting.{lines_in}
use Rattle.vpf_drill.proofs.counting.lines_in.Given as goal

abbrev pub invariant-loop-e : goal.invariant-loop-e
invariant-loop-e l = record {
  counted : l.lines + lines_in (drop l.e (primitives_of l.tile.tables).edges) ≡ lines_in (primitives_of l.tile.tables).edges;
  few : l.lines ≤ l.e;
}
