use Rattle.std.proofs.Common.{◌*◌, ◌/◌, ◌-◌, length}
use Rattle.vpf_value.specs.Inner.Turning.{each_piece}
use Rattle.vpf_write.specs.Inner.Turning.{turned_words}
use Rattle.vpf_write.proofs.Pieces.{Changing}
use Rattle.vpf_write.proofs.turning.turn_word.Given as goal

abbrev pub invariant-loop-k : goal.invariant-loop-k
invariant-loop-k g l = Changing (turned_words l.from 1 g.row.N) (length l.fn.rows / l.width - l.k) l.width (l.k * l.width) l.rows (each_piece (turned_words l.from 1 g.row.N) (length l.fn.rows / l.width) l.width l.fn.rows)
