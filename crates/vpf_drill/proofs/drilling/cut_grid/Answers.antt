use Rattle.std.proofs.Common.{◌∙◌, Some, List, ap}
use Rattle.vpf_source.specs.declared.file.File.{File}
use Rattle.vpf_source.specs.Making.{with_all}
use Rattle.vpf_replies.specs.Answer.{Answer}
use Rattle.vpf_library_commands.specs.Tile.{tile_answer}
use Rattle.vpf_drill.specs.GridCutting.Held.{grid_held}
use Rattle.vpf_drill.proofs.DrillLemmas.{settled_is}
use Rattle.vpf_drill.proofs.drilling.cut_grid.Goals as goal

pub returns-in-Ok-clause-made : goal.returns-in-Ok-clause-made
returns-in-Ok-clause-made c =
    ap (λ (a : Answer). a.made)
    (settled_is _ _ _ _ (c.tile.ensures.told (grid_held c.args.cells) c.requires) c.settle.ensures.reply c.in-Ok.is
    ∙ ap (tile_answer (grid_held c.args.cells)) c.in_ok-request.ensures)

pub returns-in-Ok-clause-files : goal.returns-in-Ok-clause-files
returns-in-Ok-clause-files c =
    c.in_ok-make_here-in-Ok.ensures
    ∙ ap (λ told. with_all c.made.result.now told) (c.tile.ensures.files ∙ c.requires)
    ∙ ap (λ (files : List File). with_all files (Some (grid_held c.args.cells))) (c.made.ensures ∙ returns-in-Ok-clause-made c)
