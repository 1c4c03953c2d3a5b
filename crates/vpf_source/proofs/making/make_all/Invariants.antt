use Rattle.std.proofs.Common.{◌≡◌, take}
use Rattle.vpf_source.specs.Causes.{Stood}
use Rattle.vpf_source.specs.Making.{with_all}
use Rattle.vpf_source.proofs.making.make_all.Given as goal

abbrev pub invariant-loop-file : goal.invariant-loop-file
invariant-loop-file g l =
    let told = g.T.Tree.files in
    let faults = g.T.Tree.faults in
    record {
      made : told l.tree ≡ with_all (take l.file-index l.files) (told l.fn.tree);
      stood : Stood (faults l.fn.tree) (faults l.tree);
    }
