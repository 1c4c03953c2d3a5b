use Rattle.vpf_table.specs.Canonical.{canonical_table}
use Rattle.vpf_table.proofs.TableLaws.{table_again}
use Rattle.vpf_table.proofs.CanonicalTables.{table_spelled, table_spans, table_opened}
use Rattle.vpf_table.specs.Inner.CanonicalLaws.{table_has_spans}
use Rattle.vpf_table.proofs.laws.canonical_is_read.Goals as goal

pub returns-clause-spelled : goal.returns-clause-spelled
returns-clause-spelled c = table_spelled c.fitting_is_written.ensures.spelled c.canonical_is_read.ensures.spelled

pub returns-clause-read_again : goal.returns-clause-read_again
returns-clause-read_again c =
    λ g w e. table_again c.cells_and_headers.ensures g (canonical_table g) (table_spelled c.fitting_is_written.ensures.spelled c.canonical_is_read.ensures.spelled g w e)

pub returns-clause-spans : goal.returns-clause-spans
returns-clause-spans c = table_spans c.cells_and_headers.ensures c.fitting_is_written.ensures.spelled c.canonical_is_read.ensures.read_again

pub returns-clause-opened_again : goal.returns-clause-opened_again
returns-clause-opened_again c =
    λ g w e.
    let read = table_again c.cells_and_headers.ensures g (canonical_table g) (table_spelled c.fitting_is_written.ensures.spelled c.canonical_is_read.ensures.spelled g w e) in
    let spans = table_spans c.cells_and_headers.ensures c.fitting_is_written.ensures.spelled c.canonical_is_read.ensures.read_again g w e in
    table_opened c.own_index_is_taken.ensures.taken g read spans (table_has_spans g e)
