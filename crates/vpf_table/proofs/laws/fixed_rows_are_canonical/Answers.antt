use Rattle.vpf_table.proofs.OneSpelling.{rows_alone}
use Rattle.vpf_table.proofs.laws.fixed_rows_are_canonical.Goals as goal

pub returns : goal.returns
returns c = rows_alone c.fitting_is_written.ensures.alone
