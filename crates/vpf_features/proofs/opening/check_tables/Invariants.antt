use Rattle.std.proofs.Common.{◌≡◌, drop, map}
use Rattle.vpf_features.specs.Finding.{tables_finding}
use Rattle.vpf_features.specs.Inner.Views.{table_seen}
use Rattle.vpf_features.proofs.opening.check_tables.Given as goal

abbrev pub invariant-loop-view : goal.invariant-loop-view
invariant-loop-view l = tables_finding l.folder (map table_seen (drop l.view-index l.views)) ≡ tables_finding l.folder (map table_seen l.views)
