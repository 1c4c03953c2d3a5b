use Rattle.std.proofs.Common.{◌∙◌, Some, ap}
use Rattle.vpf_source.specs.Files.{no_files}
use Rattle.vpf_source.specs.Making.{with_all}
use Rattle.vpf_drill.proofs.trees.grid_tree.Goals as goal

pub returns : goal.returns
returns c =
    c.in_ok-make_here.ensures
    ∙ ap (λ told. with_all c.deref.result.now told) c.new-tree.ensures.files
    ∙ ap (λ files. with_all files (Some no_files)) (c.deref.ensures.value ∙ c.in_ok-files.ensures.files)
    ∙ c.grid_is_held.ensures.made c.args.cells
