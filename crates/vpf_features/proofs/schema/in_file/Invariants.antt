use Rattle.std.proofs.Common.{◌≡◌, drop, map}
use Rattle.vpf_feature_files.specs.Schemas.{table_in_file}
use Rattle.vpf_features.specs.Inner.Views.{table_seen}
use Rattle.vpf_features.proofs.schema.in_file.Given as goal

abbrev pub invariant-loop-view : goal.invariant-loop-view
invariant-loop-view l = table_in_file (map table_seen (drop l.view-index l.tables)) l.name ≡ table_in_file (map table_seen l.tables) l.name
