use Rattle.std.proofs.Common.{◌≡◌, ◌+◌, ◌++◌, length, map, take}
use Rattle.vpf_value.specs.Values.{view}
use Rattle.vpf_write.proofs.revise.filling.fill.Given as goal

abbrev pub invariant-loop-c : goal.invariant-loop-c
invariant-loop-c l = record {
  many : length l.c-iterator.iter + l.c-iterator.count ≡ length l.cells;
  done : take l.c-iterator.count (map view l.cells) ++ l.c-iterator.iter ≡ l.fn.row;
}
