use Rattle.std.proofs.Common.{◌≡◌, ◌-◌, ◌≤◌, Some, length, take}
use Rattle.vpf_source.specs.Causes.{Stood}
use Rattle.vpf_source.specs.Files.{Files, bytes_of}
use Rattle.vpf_feed.specs.Inner.Stages.{HoldsFed}
use Rattle.vpf_table_commands.proofs.feeding.feed_file.Given as goal

abbrev pub invariant-loop-at : goal.invariant-loop-at
invariant-loop-at g l =
    let files = g.T.Tree.files in
    let faults = g.T.Tree.faults in
    record {
      fed : (told : Files) → files l.fn.tree ≡ Some told → length (bytes_of (told l.name)) ≡ l.size → HoldsFed l.feed (take l.at (bytes_of (told l.name)));
      inside : l.at ≤ l.size;
      kept : files l.tree ≡ files l.fn.tree;
      stood : Stood (faults l.fn.tree) (faults l.tree);
    }

abbrev pub decreases-loop-at : goal.decreases-loop-at
decreases-loop-at g l = l.size - l.at
