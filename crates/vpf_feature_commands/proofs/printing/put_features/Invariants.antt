use Rattle.std.proofs.Common.{◌≡◌, ◌++◌, map, take, string_bytes}
use Rattle.std.specs.List.{flat_map}
use Rattle.vpf_joins.specs.Features.{feature_seen}
use Rattle.vpf_feature_commands.specs.Lines.{feature_line}
use Rattle.vpf_feature_commands.proofs.printing.put_features.Given as goal

abbrev pub invariant-loop-feature : goal.invariant-loop-feature
invariant-loop-feature l = string_bytes l.text ≡ string_bytes l.initial.text ++ flat_map (feature_line l.tiled) (map feature_seen (take l.feature-index l.features))
