-- What a tree of which no call fails holds.
use Rattle.vpf_source.specs.Files.{Files}
use Rattle.vpf_source.specs.Inner.Held.{tree_files}
use Rattle.vpf_source.specs.declared.sure_tree.SureTree.{SureTree}

-- the files of a tree in memory of which no call fails
abbrev pub sure_files : SureTree → Files
sure_files tree = tree_files tree.held
