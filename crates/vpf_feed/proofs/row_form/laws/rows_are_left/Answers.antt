use Rattle.vpf_feed.proofs.row_form.Lefts.{row_is, rows_are}
use Rattle.vpf_feed.proofs.row_form.laws.rows_are_left.Goals as goal

pub returns-clause-row : goal.returns-clause-row
returns-clause-row c = row_is

pub returns-clause-rows : goal.returns-clause-rows
returns-clause-rows c = rows_are
