use Rattle.std.proofs.Common.{◌≡◌, ◌+◌, ◌≤◌, length}
use Rattle.vpf_theme.specs.Inner.Views.{marked_left}
use Rattle.vpf_theme.proofs.hits.count_marked.Given as goal

abbrev pub invariant-loop-k : goal.invariant-loop-k
invariant-loop-k l = record {
  counted : l.marked + length (marked_left l.layout l.bytes l.extent l.k) ≡ length (marked_left l.layout l.bytes l.extent 0);
  few : l.marked ≤ l.k;
}
