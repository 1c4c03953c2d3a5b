use Rattle.vpf_table.proofs.SpanLaws.{opened_takes}
use Rattle.vpf_table.proofs.laws.opened_is_spelled.Goals as goal

pub returns : goal.returns
returns c = λ bytes index g fits fits2 e. opened_takes c.cells_and_headers.ensures c.laws_of_indexes.ensures bytes index g fits fits2 e
