use Rattle.std.proofs.Common.{◌≡◌, List, Option, map, take}
use Rattle.std.specs.Option.{option_map}
use Rattle.vpf_feature_files.specs.Inner.Held.{AreIndexFiles}
use Rattle.vpf_feature_files.specs.Schemas.{Index}
use Rattle.vpf_features.specs.Inner.Views.{index_seen}
use Rattle.vpf_features.proofs.opening.open_indexes.Given as goal

abbrev pub invariant-loop-file : goal.invariant-loop-file
invariant-loop-file l = (indexes : List (Option Index)) → AreIndexFiles l.order indexes l.files
    → map (option_map index_seen) l.views.items ≡ take l.file-index indexes
