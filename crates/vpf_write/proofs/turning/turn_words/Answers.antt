use Rattle.std.proofs.Common.{◌+◌, ◌-◌, ◌*◌, arith}
use Rattle.vpf_write.proofs.Pieces.{words_begun, words_step, words_done}
use Rattle.vpf_write.proofs.turning.turn_words.Goals as goal

pub loop-j-init : goal.loop-j-init
loop-j-init g c = words_begun c.args.from c.args.words g.row.N _ c.args.width c.args.rows.now

pub loop-j-preserved : goal.loop-j-preserved
loop-j-preserved g c =
    words_step c.args.from c.args.words g.row.N c.loop-j.j c.args.width _ c.loop-j.rows c.turn_word.new.rows _ c.loop-j-test.true c.requires.inside c.loop-j.auto.rows c.turn_word.ensures c.loop-j.invariant

pub returns : goal.returns
returns g c = words_done (c.args.from + c.loop-j.j * g.row.N) (c.args.words - c.loop-j.j) g.row.N _ c.args.width c.loop-j.rows _ (omega arith) c.loop-j.invariant
