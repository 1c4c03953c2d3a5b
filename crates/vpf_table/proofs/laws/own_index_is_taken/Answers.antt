use Rattle.vpf_table.proofs.SpanLaws.{own_is_taken, small_spans}
use Rattle.vpf_table.proofs.laws.own_index_is_taken.Goals as goal

pub returns-clause-taken : goal.returns-clause-taken
returns-clause-taken c = own_is_taken c.laws_of_indexes.ensures

pub returns-clause-small : goal.returns-clause-small
returns-clause-small c = small_spans c.cells_and_headers.ensures
