use Rattle.std.proofs.Common.{arith, ◌*◌, ◌+◌, ◌/◌, ◌<◌, ◌≤◌, length, ℕ, ◌∙◌, sym}
use Rattle.vpf_value.specs.declared.coords.WordWidth.{WordWidth}
use Rattle.vpf_value.specs.declared.coords.WordWidth.TheVariants.{Four, Eight}
use Rattle.vpf_value.specs.Words.{word_bytes}
use Rattle.vpf_value.proofs.WordLists.{length-words_of, get_or-words_of}
use Rattle.vpf_value.proofs.coords.Coords.word.Goals as goal

lies_inside : (w : WordWidth) (len i : ℕ) → i < len / word_bytes w → word_bytes w * i + word_bytes w ≤ len
lies_inside Four len i h = omega arith
lies_inside Eight len i h = omega arith

pub word_at-requires : goal.word_at-requires
word_at-requires c = let h = (rw length-words_of at c.requires) in lies_inside c.args.self.now.width (length c.args.self.now.bytes.now) c.args.i h

pub returns : goal.returns
returns c =
    let self = c.args.self.now in
    c.word_at.ensures ∙ sym (get_or-words_of self.order self.width (length self.bytes.now / word_bytes self.width) self.bytes.now c.args.i (rw length-words_of at c.requires))
