use Rattle.std.proofs.Common.{refl, arith}
use Rattle.std.proofs.Output.{has_written_append, has_written_of_eq}
use Rattle.vpf_value.specs.Inner.Coordinates.{words}
use Rattle.vpf_findings.proofs.text.WordLemmas.{words_more}
use Rattle.vpf_findings.proofs.text.cells.WordsDisplay.fmt.Goals as goal

pub loop-i-preserved : goal.loop-i-preserved
loop-i-preserved g c = λ p.
    let more = words_more c.tuple_len_of-tuple_len.result c.word_width-width.result (words c.args.self.now.coords) c.loop-i.i c.word-word.result c.separator-before.result.now (omega arith) c.word-word.ensures c.separator-before.ensures in
    has_written_of_eq _ _ _ _ _ more (has_written_append _ _ _ _ _ _ (c.loop-i.invariant p) (c.in_ok-write.ensures.writes (c.loop-i.invariant p).plain refl))
