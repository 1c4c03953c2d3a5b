use Rattle.std.proofs.Common.{◌≡◌, ◌++◌, length}
use Rattle.vpf_write.specs.Inner.Turning.{turned_rows}
use Rattle.vpf_write.proofs.turning.put_turned.Given as goal

abbrev pub invariant-loop-left : goal.invariant-loop-left
invariant-loop-left l = l.out.items ++ turned_rows l.fields l.width l.left ≡ l.fn.out.items ++ turned_rows l.fn.fields l.fn.width l.fn.rows

abbrev pub decreases-loop-left : goal.decreases-loop-left
decreases-loop-left l = length l.left
