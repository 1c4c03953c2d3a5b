use Rattle.vpf_select.proofs.IndexLemmas.{agreeing_scan, agreeing_scan_at}
use Rattle.vpf_select.proofs.laws.indexed_selection_is_the_scan.Goals as goal

pub returns-clause-column : goal.returns-clause-column
returns-clause-column c = agreeing_scan c.listed_is_scan.ensures

pub returns-clause-table : goal.returns-clause-table
returns-clause-table c = agreeing_scan_at c.listed_is_scan.ensures
