use Rattle.std.proofs.Common.{◌∙◌, ◌+◌, ℕ, sym, ap}
use Rattle.vpf_value.specs.Values.{WordsOf, view}
use Rattle.vpf_value.specs.Inner.Fitting.{FitsCell}
use Rattle.vpf_value.specs.Inner.Coordinates.{words, words_width}
use Rattle.vpf_value.proofs.Canonicals.{length-fixed, length-words}
use Rattle.vpf_value.proofs.writing.spelled_len.Goals as goal

pub returns-in-Some : goal.returns-in-Some
returns-in-Some c = λ o. length-fixed o c.args.kind c.args.count (view c.args.cell.now) _ (sym c.cell_width.ensures ∙ c.in-Some.is) c.requires

pub returns-in-Coords : goal.returns-in-Coords
returns-in-Coords c =
    let coords = c.in-Coords.coords in
    let h : FitsCell c.args.kind c.args.count (WordsOf (words_width coords) (words coords)) = rw c.in-Coords.is at c.requires in
    λ o. rw (c.in-Coords.is) (length-words o c.args.kind c.args.count (words_width coords) (words coords) (sym c.cell_width.ensures ∙ c.in_default.is) h ∙ ap (λ (n : ℕ). 4 + n) (sym c.words_bytes.ensures))
