use Rattle.std.proofs.Common.{◌≡◌, ◌≤◌, drop}
use Rattle.vpf_source.specs.Causes.{Stood}
use Rattle.vpf_library_files.specs.Loading.Loading.{most_loaded}
use Rattle.vpf_feature_files.proofs.IndexLemmas.{IndexesRead}
use Rattle.vpf_feature_files.proofs.indexes.load_indexes.Given as goal

abbrev pub invariant-loop-c : goal.invariant-loop-c
invariant-loop-c g l = record {
  read : IndexesRead (g.T.Tree.files l.fn.tree) l.fn.folder l.fn.header.order l.fn.header.columns (drop l.c l.fn.header.columns) l.fn.loaded l.loaded l.files.items;
  rising : l.fn.loaded ≤ l.loaded;
  most : l.loaded ≤ most_loaded;
  stood : Stood (g.T.Tree.faults l.fn.tree) (g.T.Tree.faults l.tree);
  same : g.T.Tree.files l.tree ≡ g.T.Tree.files l.fn.tree;
}
