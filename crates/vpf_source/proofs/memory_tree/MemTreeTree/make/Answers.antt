use Rattle.vpf_source.proofs.Made.{half_elsewhere}
use Rattle.vpf_source.proofs.memory_tree.MemTreeTree.make.Goals as goal

pub returns-then-is_err-clause-others : goal.returns-then-is_err-clause-others
returns-then-is_err-clause-others c _ = half_elsewhere _ _ _ _ c.leave_half.ensures.half
