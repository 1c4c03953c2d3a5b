use Rattle.std.proofs.Common.{◌≡◌, take, fold, flat_map}
use Rattle.std.specs.Hash as fed
use Rattle.vpf_source.specs.Names.Items.{small}
use Rattle.vpf_feature_files.proofs.schema_rows.items.hash_small.Given as goal

abbrev pub invariant-loop-b : goal.invariant-loop-b
invariant-loop-b g l = l.state ≡ fold g.H.Hasher.write l.initial.state (flat_map fed.u8 (small (take l.b-index l.name)))
