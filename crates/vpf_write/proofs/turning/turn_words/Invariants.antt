use Rattle.std.proofs.Common.{◌≡◌, ◌*◌, ◌+◌, ◌/◌, ◌-◌, length}
use Rattle.vpf_value.specs.Inner.Turning.{each_piece}
use Rattle.vpf_write.specs.Inner.Turning.{turned_words}
use Rattle.vpf_write.proofs.turning.turn_words.Given as goal

abbrev pub invariant-loop-j : goal.invariant-loop-j
invariant-loop-j g l =
    let n = length l.fn.rows / l.width in
    each_piece (turned_words (l.from + l.j * g.row.N) (l.words - l.j) g.row.N) n l.width l.rows ≡ each_piece (turned_words l.from l.words g.row.N) n l.width l.fn.rows
