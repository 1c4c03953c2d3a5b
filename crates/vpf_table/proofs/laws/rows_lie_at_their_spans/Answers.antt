use Rattle.vpf_table.proofs.SpanLaws.{length-row_spans, rows_are_spelled}
use Rattle.vpf_table.proofs.laws.rows_lie_at_their_spans.Goals as goal

pub returns-clause-each : goal.returns-clause-each
returns-clause-each c = length-row_spans

pub returns-clause-spelled : goal.returns-clause-spelled
returns-clause-spelled c = rows_are_spelled c.cells_and_headers.ensures
