use Rattle.std.proofs.Common.{◌∙◌, List, ap, subst}
use Rattle.vpf_source.specs.declared.file.File.{File}
use Rattle.vpf_replies.specs.Answer.{done}
use Rattle.vpf_drill.specs.declared.numbers.SourceNumbers.{SourceNumbers}
use Rattle.vpf_drill.specs.declared.numbers.TiledNumbers.{TiledNumbers}
use Rattle.vpf_drill.specs.Drill.{IsDrill}
use Rattle.vpf_drill.specs.Numbers.{numbers_text, source_numbers, tiled_numbers}
use Rattle.vpf_drill.proofs.drilling.drill.Goals as goal

pub returns : goal.returns
returns c =
    let n = c.cells-cells.result in
    let t = c.grid_is_tiled.ensures.tiled n c.cells-cells.ensures.can in
    let of = c.in_ok-tiled.ensures t.after t.tiled t.made t.tiled_read in
    let source = c.in_ok-source.ensures.numbers t.source t.source_read in
    let tiled = of.is ∙ ap (λ (files : List File). tiled_numbers t.tiled.coverage of.cycles files) (c.made.ensures ∙ c.in_ok-cut.ensures.made) in
    subst (λ m. IsDrill m c.new.result) c.cells-cells.ensures.value (record {
      source = t.source;
      is_source = t.source_read;
      after = t.after;
      is_after = t.made;
      tiled = t.tiled;
      is_tiled = t.tiled_read;
      cycles = of.cycles;
      are = of.are;
      is = c.new.ensures
          ∙ ap done (c.in_ok-text.ensures
          ∙ ap (λ (s : SourceNumbers). numbers_text n s c.in_ok-tiled.tiled) source
          ∙ ap (λ (m : TiledNumbers). numbers_text n (source_numbers t.source.coverage) m) tiled);
    })
