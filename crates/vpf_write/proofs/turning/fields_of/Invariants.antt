use Rattle.std.proofs.Common.{◌≡◌, ◌++◌, map, drop}
use Rattle.vpf_write.specs.Inner.Turning.{field_of, fields_of}
use Rattle.vpf_write.proofs.turning.fields_of.Given as goal

abbrev pub invariant-loop-c : goal.invariant-loop-c
invariant-loop-c l = l.fields.items ++ map field_of (drop l.c l.header.columns) ≡ fields_of l.header.columns
