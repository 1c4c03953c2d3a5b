use Rattle.std.proofs.Common.{◌≡◌, map, take}
use Rattle.vpf_feature_files.specs.SchemaRows.Joins.{join_of}
use Rattle.vpf_joins.specs.Features.{feature_in, feature_seen}
use Rattle.vpf_joins.proofs.features.features_of.Given as goal

abbrev pub invariant-loop-k : goal.invariant-loop-k
invariant-loop-k l = map feature_seen l.features.items ≡ map (feature_in l.fn.coverage (map join_of l.fn.joins) l.table) (take l.k-index l.k-items)
