use Rattle.vpf_tiling.proofs.plan.FirstRows.{first_row_names, no_row_names}
use Rattle.vpf_tiling.proofs.plan.laws.first_rows_name.Goals as goal

pub returns-clause-first : goal.returns-clause-first
returns-clause-first c = first_row_names

pub returns-clause-none : goal.returns-clause-none
returns-clause-none c = no_row_names
