use Rattle.std.proofs.Common.{◌/◌, length, sym, ◌∙◌, append_assoc, rules, arith}
use Rattle.std.proofs.lemmas.Grind.{common_steps}
use Rattle.std.proofs.lemmas.List.{append-nil}
use Rattle.vpf_value.specs.Words.{word_bytes}
use Rattle.vpf_value.specs.Inner.Coordinates.{words, words_width}
use Rattle.vpf_value.proofs.WordLists.{words_of_below}
use Rattle.vpf_value.proofs.WordTexts.{word_text-drop, word_text-end}
use Rattle.vpf_value.proofs.writing.put_words.Goals as goal

pub put_word-requires : goal.put_word-requires
put_word-requires c =
    let coords = c.args.coords.now in
    let small = words_of_below coords.order coords.width (length coords.bytes.now / word_bytes coords.width) coords.bytes.now coords.are_bytes in
    rw (c.word_width-width.ensures, c.word.ensures) (small c.loop-i.i 0 (omega arith))

pub loop-i-preserved : goal.loop-i-preserved
loop-i-preserved c =
    let step = word_text-drop c.args.order (words_width c.args.coords.now) (words c.args.coords.now) c.loop-i.i (omega arith) in
    record {
      done = rw (c.in_ok-put_word.ensures.ok, append_assoc, c.word_width-width.ensures, c.word.ensures, ← step) c.loop-i.invariant.done;
      kept = search (rules, common_steps);
    }

pub returns-clause-ok : goal.returns-clause-ok
returns-clause-ok c =
    let end = word_text-end c.args.order (words_width c.args.coords.now) (words c.args.coords.now) c.loop-i.i (omega arith) in
    sym (c.loop-i.invariant.done ∙ rw end (append-nil c.loop-i.out.items))
