use Rattle.std.proofs.Common.{arith, ◌*◌, ◌+◌, ◌-◌, take, drop}
use Rattle.vpf_write.specs.Inner.Turning.{turned_words}
use Rattle.vpf_write.proofs.Pieces.{none_changed, one_changed, all_changed, word_turned, turned_words_keeps}
use Rattle.vpf_write.proofs.turning.turn_word.Goals as goal

pub loop-k-init : goal.loop-k-init
loop-k-init g c = none_changed (turned_words c.args.from 1 g.row.N) _ _ _

pub loop-k-preserved : goal.loop-k-preserved
loop-k-preserved g c =
    let size = c.args.width in
    let at = c.loop-k.k * size in
    let k = at + size - at in
    let row = take k (drop at c.loop-k.rows) in
    let turned = word_turned c.args.from g.row.N (c.args.from + g.row.N - c.args.from) row c.reverse.new.self (omega arith) c.reverse.ensures.after in
    one_changed (turned_words c.args.from 1 g.row.N) c.loop-k.k size k _ c.loop-k.rows _ _ c.loop-k.auto.rows c.loop-k-test.true c.requires.some (turned_words_keeps c.args.from 1 g.row.N size (omega arith)) (omega arith) turned c.loop-k.invariant

pub returns : goal.returns
returns g c = all_changed (turned_words c.args.from 1 g.row.N) _ _ _ _ _ (omega arith) c.loop-k.invariant
