use Rattle.std.proofs.Common.{◌≡◌, drop, map}
use Rattle.std.specs.Option.{option_map}
use Rattle.vpf_features.specs.Inner.Views.{index_seen, table_seen}
use Rattle.vpf_feature_writing.specs.Making.{indexes_made, then_files}
use Rattle.vpf_feature_writing.proofs.indexes.add_indexes.Given as goal

abbrev pub invariant-loop-c : goal.invariant-loop-c
invariant-loop-c l =
    then_files l.files.items (indexes_made l.folder (table_seen l.view) l.c (map (option_map index_seen) (drop l.c l.index-items)))
    ≡ then_files l.fn.files.items (indexes_made l.folder (table_seen l.view) 0 (table_seen l.view).indexes)
