use Rattle.std.proofs.Common.{◌≡◌, All, IsTrue, map, slice_get}
use Rattle.std.specs.Option.{IsSomeAnd}
use Rattle.vpf_triplet.specs.declared.kinds.Count.TheVariants.{Fixed}
use Rattle.vpf_head.specs.Head.{Col, names_rows}
use Rattle.vpf_write.specs.declared.revise.changes.NewKind.{NewKind}
use Rattle.vpf_write.specs.Revise.Revising.{head_with_kinds}
use Rattle.vpf_write.proofs.revise.headers.with_kinds.Given as goal

abbrev pub invariant-loop-new : goal.invariant-loop-new
invariant-loop-new l = record {
  can_next : (goal.iterator-loop-new).can_next l.new-iterator;
  is_finite : (goal.iterator-loop-new).is_finite l.new-iterator;
  one : All (λ (new : NewKind). IsSomeAnd (slice_get l.header.columns new.column) (λ column. column.count ≡ Fixed 1)) l.new-iterator.iter.rest.now;
  kinds : All (λ (new : NewKind). IsTrue (names_rows new.kind)) l.new-iterator.iter.rest.now;
  counts : map (λ (column : Col). column.count) l.revised.columns ≡ map (λ (column : Col). column.count) l.header.columns;
  done : head_with_kinds l.new-iterator.iter.rest.now l.revised ≡ head_with_kinds l.kinds l.header;
}
