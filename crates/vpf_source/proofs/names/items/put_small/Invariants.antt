use Rattle.std.proofs.Common.{◌≡◌, ◌++◌, take, string_bytes}
use Rattle.vpf_source.specs.Names.Items.{small}
use Rattle.vpf_source.proofs.names.items.put_small.Given as goal

abbrev pub invariant-loop-b : goal.invariant-loop-b
invariant-loop-b l = string_bytes l.text ≡ string_bytes l.initial.text ++ small (take l.b-index l.name)
