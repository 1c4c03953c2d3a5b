use Rattle.vpf_write.proofs.revise.FittingRows.{others_fit, revised_fits, same_fit}
use Rattle.vpf_write.proofs.revise.laws.revised_rows_fit.Goals as goal

pub returns-clause-others : goal.returns-clause-others
returns-clause-others c = others_fit

pub returns-clause-row : goal.returns-clause-row
returns-clause-row c = revised_fits

pub returns-clause-same : goal.returns-clause-same
returns-clause-same c = same_fit
