use Rattle.vpf_value.proofs.Deciding.{decided}
use Rattle.vpf_value.proofs.laws.cells_decide.Goals as goal

pub returns : goal.returns
returns c = decided c.refusals_are_first_faults.ensures.only c.refusals_are_first_faults.ensures.each
