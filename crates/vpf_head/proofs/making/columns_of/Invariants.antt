use Rattle.std.proofs.Common.{◌≡◌, take}
use Rattle.indexmap.specs.IndexMap.{values}
use Rattle.vpf_head.specs.Inner.Views.{AreNamed}
use Rattle.vpf_head.proofs.making.columns_of.Given as goal

abbrev pub invariant-loop-column : goal.invariant-loop-column
invariant-loop-column l = record {
  done : values l.named ≡ take l.column-index l.columns;
  each : AreNamed l.named.entries;
}
