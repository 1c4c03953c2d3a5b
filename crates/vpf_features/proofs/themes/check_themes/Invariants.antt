use Rattle.std.proofs.Common.{◌≡◌, drop, map}
use Rattle.vpf_features.specs.Finding.{themes_finding}
use Rattle.vpf_features.specs.Inner.Views.{table_seen}
use Rattle.vpf_features.proofs.themes.check_themes.Given as goal

abbrev pub invariant-loop-view : goal.invariant-loop-view
invariant-loop-view l =
    themes_finding l.folder (map table_seen (drop l.view-index l.view-items)) ≡ themes_finding l.folder l.schema.tables
