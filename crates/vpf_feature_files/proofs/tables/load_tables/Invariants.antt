use Rattle.std.proofs.Common.{◌≡◌, ◌≤◌, drop, map}
use Rattle.vpf_source.specs.Causes.{Stood}
use Rattle.vpf_library_files.specs.Loading.Loading.{most_loaded}
use Rattle.vpf_feature_files.specs.Inner.SchemaRows.Listing.{item_text}
use Rattle.vpf_feature_files.proofs.FeatureLemmas.{TablesRead}
use Rattle.vpf_feature_files.proofs.tables.load_tables.Given as goal

abbrev pub invariant-loop-item : goal.invariant-loop-item
invariant-loop-item g l = record {
  read : TablesRead (g.T.Tree.files l.fn.tree) l.fn.folder (map item_text l.fn.items) (map item_text (drop l.item-index l.fn.items)) l.fn.loaded l.loaded l.tables.items;
  rising : l.fn.loaded ≤ l.loaded;
  most : l.loaded ≤ most_loaded;
  stood : Stood (g.T.Tree.faults l.fn.tree) (g.T.Tree.faults l.tree);
  same : g.T.Tree.files l.tree ≡ g.T.Tree.files l.fn.tree;
}
