use Rattle.std.proofs.Common.{◌≡◌, drop, map}
use Rattle.vpf_features.specs.Inner.Views.{table_seen}
use Rattle.vpf_feature_writing.specs.Making.{feature_tables_made, then_files}
use Rattle.vpf_feature_writing.proofs.features.add_feature_tables.Given as goal

abbrev pub invariant-loop-view : goal.invariant-loop-view
invariant-loop-view l =
    then_files l.files.items (feature_tables_made l.folder (map table_seen (drop l.view-index l.views)))
    ≡ then_files l.fn.files.items (feature_tables_made l.folder (map table_seen l.views))
