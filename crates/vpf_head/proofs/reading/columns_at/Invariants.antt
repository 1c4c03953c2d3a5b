use Rattle.std.proofs.Common.{◌≡◌, ◌≤◌, length, map, []}
use Rattle.indexmap.specs.IndexMap.{values}
use Rattle.vpf_base.specs.Limits.{most_columns}
use Rattle.vpf_head.specs.Reading.{columns_at}
use Rattle.vpf_head.specs.Inner.Views.{col, AreNamed}
use Rattle.vpf_head.proofs.reading.columns_at.Given as goal

abbrev pub invariant-loop-columns : goal.invariant-loop-columns
invariant-loop-columns l = record {
  same : columns_at l.room (map col (values l.columns)) l.text l.at ≡ columns_at most_columns [] l.text l.fn.at;
  named : AreNamed l.columns.entries;
  inside : l.at ≤ length l.text;
}

abbrev pub decreases-loop-columns : goal.decreases-loop-columns
decreases-loop-columns l = l.room
