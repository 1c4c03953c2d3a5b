use Rattle.std.proofs.Common.{◌≡◌, ◌≤◌}
use Rattle.vpf_source.specs.Causes.{Stood}
use Rattle.vpf_library_files.specs.Loading.Loading.{most_loaded}
use Rattle.vpf_library_files.proofs.loading.TilesLemmas.{TilesRead, before_tile}
use Rattle.vpf_library_files.proofs.loading.loading.tiles.load_tiles.Given as goal

abbrev pub invariant-loop-t : goal.invariant-loop-t
invariant-loop-t g l = record {
  read : TilesRead (g.T.Tree.files l.fn.tree) l.fn.folder (before_tile l.fn.paths l.t) l.fn.loaded l.fn.tables l.tables l.some l.loaded;
  from : 1 ≤ l.t;
  rising : l.fn.loaded ≤ l.loaded;
  most : l.loaded ≤ most_loaded;
  stood : Stood (g.T.Tree.faults l.fn.tree) (g.T.Tree.faults l.tree);
  same : g.T.Tree.files l.tree ≡ g.T.Tree.files l.fn.tree;
}
