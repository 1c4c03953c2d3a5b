use Rattle.vpf_table.proofs.SpanLaws.{opened_again}
use Rattle.vpf_table.proofs.laws.spelled_is_opened.Goals as goal

pub returns : goal.returns
returns c = λ bytes index g i. opened_again c.cells_and_headers.ensures c.laws_of_indexes.ensures bytes index g i
