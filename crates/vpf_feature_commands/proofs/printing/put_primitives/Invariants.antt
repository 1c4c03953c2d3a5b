use Rattle.std.proofs.Common.{◌≡◌, ◌++◌, take, string_bytes}
use Rattle.std.specs.List.{flat_map}
use Rattle.vpf_feature_commands.specs.Lines.{primitive_text}
use Rattle.vpf_feature_commands.proofs.printing.put_primitives.Given as goal

abbrev pub invariant-loop-primitive : goal.invariant-loop-primitive
invariant-loop-primitive l = string_bytes l.text ≡ string_bytes l.initial.text ++ flat_map (primitive_text l.tiled) (take l.primitive-index l.primitives)
