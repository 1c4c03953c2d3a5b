use Rattle.std.proofs.Common.{◌≡◌, drop, map}
use Rattle.std.specs.Option.{option_map}
use Rattle.vpf_features.specs.Finding.{indexes_finding}
use Rattle.vpf_features.specs.Inner.Views.{index_seen}
use Rattle.vpf_features.proofs.themes.check_indexes.Given as goal

abbrev pub invariant-loop-c : goal.invariant-loop-c
invariant-loop-c l =
    indexes_finding l.folder l.view.table l.c (map (option_map index_seen) (drop l.c l.index-items))
    ≡ indexes_finding l.folder l.view.table 0 (map (option_map index_seen) l.view.indexes.items)
