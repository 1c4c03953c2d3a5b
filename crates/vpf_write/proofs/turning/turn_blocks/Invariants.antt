use Rattle.std.proofs.Common.{◌-◌, length}
use Rattle.vpf_write.specs.Inner.Turning.{turned_rows}
use Rattle.vpf_write.proofs.Blocks.{Turning}
use Rattle.vpf_write.proofs.turning.turn_blocks.Given as goal

abbrev pub invariant-loop-at : goal.invariant-loop-at
invariant-loop-at l = Turning l.fields l.width l.at l.rows (turned_rows l.fn.fields l.fn.width l.fn.rows)

abbrev pub decreases-loop-at : goal.decreases-loop-at
decreases-loop-at l = length l.rows - l.at
