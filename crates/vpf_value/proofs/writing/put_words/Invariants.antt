use Rattle.std.proofs.Common.{◌≡◌, ◌++◌, take, drop}
use Rattle.std.specs.Prelude.{vec_len}
use Rattle.vpf_value.specs.Words.{spelled_words}
use Rattle.vpf_value.specs.Inner.Coordinates.{words, words_width}
use Rattle.vpf_value.proofs.writing.put_words.Given as goal

abbrev pub invariant-loop-i : goal.invariant-loop-i
invariant-loop-i l = record {
  done : l.fn.out.items ++ spelled_words l.order (words_width l.coords) (words l.coords) ≡ l.out.items ++ spelled_words l.order (words_width l.coords) (drop l.i (words l.coords));
  kept : take (vec_len l.fn.out) l.out.items ≡ l.fn.out.items;
}
