use Rattle.std.proofs.Common.{◌≡◌, ◌≤◌, take}
use Rattle.vpf_source.specs.Names.Items.{before_padding}
use Rattle.vpf_source.proofs.names.items.before_padding.Given as goal

abbrev pub invariant-loop-i : goal.invariant-loop-i
invariant-loop-i l = record {
  inside : l.end ≤ l.i;
  kept : take l.end l.item ≡ before_padding (take l.i l.item);
}
