use Rattle.std.proofs.Common.{◌≡◌, ◌<◌, All, length, map}
use Rattle.vpf_value.specs.Values.{view}
use Rattle.vpf_write.specs.declared.revise.changes.NewCell.{NewCell}
use Rattle.vpf_write.specs.Revise.Revising.{new_value, revised}
use Rattle.vpf_write.proofs.revise.filling.revise.Given as goal

abbrev pub invariant-loop-new : goal.invariant-loop-new
invariant-loop-new l = record {
  inside : All (λ (new : NewCell). new.column < length l.cells) l.new-iterator.iter.rest.now;
  done : revised (map new_value l.new-iterator.iter.rest.now) (map view l.cells) ≡ revised (map new_value l.changes) (map view l.fn.cells);
}
