use Rattle.vpf_write.proofs.revise.FittingRows.{kept_fits, taken_fits}
use Rattle.vpf_write.proofs.revise.laws.values_of_new_kinds_fit.Goals as goal

pub returns-clause-taken : goal.returns-clause-taken
returns-clause-taken c = taken_fits

pub returns-clause-kept : goal.returns-clause-kept
returns-clause-kept c = kept_fits
