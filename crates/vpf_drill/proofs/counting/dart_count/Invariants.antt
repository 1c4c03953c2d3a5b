use Rattle.std.proofs.Common.{◌≡◌, ◌≤◌, ◌+◌, ◌*◌, ◌^◌, drop}
use Rattle.vpf_drill.specs.Counting.{dart_count}
use Rattle.vpf_drill.proofs.counting.dart_count.Given as goal

abbrev pub invariant-loop-i : goal.invariant-loop-i
invariant-loop-i l = record {
  counted : l.darts + dart_count (drop l.i l.listing) ≡ dart_count l.listing;
  few : l.darts ≤ l.i * 2 ^ 63;
}
