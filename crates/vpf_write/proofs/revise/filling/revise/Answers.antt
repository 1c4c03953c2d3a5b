use Rattle.std.proofs.Common.{◌<◌, length}
use Rattle.std.proofs.lemmas.List.{length-set}
use Rattle.vpf_write.specs.declared.revise.changes.NewCell.{NewCell}
use Rattle.vpf_write.proofs.revise.Turns.{all_before, put, all_put}
use Rattle.vpf_write.proofs.revise.filling.revise.Goals as goal

pub loop-new-preserved : goal.loop-new-preserved
loop-new-preserved c =
    let steps = c.in-Some.ensures.steps in
    record {
      inside = rw length-set (all_before (λ (new : NewCell). new.column < length c.loop-new.cells) _ _ _ steps c.loop-new.invariant.inside);
      done = put c.loop-new.cells _ _ c.in-Some.new.now _ steps c.loop-new.invariant.done;
    }

pub returns : goal.returns
returns c = all_put c.loop-new.cells _ _ c.in-None.ensures.steps.0 c.loop-new.invariant.done
