use Rattle.std.proofs.Common.{length, drop}
use Rattle.vpf_write.specs.Inner.Turning.{turned_rows}
use Rattle.vpf_write.proofs.Pieces.{Left}
use Rattle.vpf_write.proofs.turning.turn_rows.Given as goal

abbrev pub invariant-loop-field : goal.invariant-loop-field
invariant-loop-field l = Left l.from l.width (length l.fn.rows) (drop l.field-index l.fields) l.rows (turned_rows l.fields l.width l.fn.rows)
