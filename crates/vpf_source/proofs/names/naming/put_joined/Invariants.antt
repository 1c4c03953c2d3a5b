use Rattle.std.proofs.Common.{◌≡◌, ◌∷◌, ◌++◌, map, take, string_bytes}
use Rattle.std.specs.List.{flat_map}
use Rattle.vpf_source.specs.Names.Naming.{slash}
use Rattle.vpf_source.proofs.names.naming.put_joined.Given as goal

abbrev pub invariant-loop-part : goal.invariant-loop-part
invariant-loop-part l = string_bytes l.text ≡ string_bytes l.initial.text ++ flat_map (λ other. slash ∷ other) (map (λ part. part.now) (take l.part-index l.others))
