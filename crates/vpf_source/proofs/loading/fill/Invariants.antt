use Rattle.std.proofs.Common.{◌≡◌, length, ◌-◌, ◌≤◌}
use Rattle.vpf_source.specs.Causes.{Stood}
use Rattle.vpf_source.proofs.Pieces.{IsFrontOf}
use Rattle.vpf_source.proofs.loading.fill.Given as goal

abbrev pub invariant-loop-done : goal.invariant-loop-done
invariant-loop-done g l =
    let files = g.T.Tree.files in
    let reads = g.T.Tree.reads in
    let faults = g.T.Tree.faults in
    record {
      within : l.done ≤ length l.buf;
      front : IsFrontOf (files l.fn.tree) l.name l.done l.buf;
      read : IsFrontOf (reads l.fn.tree) l.name l.done l.buf;
      kept : files l.tree ≡ files l.fn.tree;
      reads_kept : reads l.tree ≡ reads l.fn.tree;
      stood : Stood (faults l.fn.tree) (faults l.tree);
    }

abbrev pub decreases-loop-done : goal.decreases-loop-done
decreases-loop-done g l = length l.buf - l.done
