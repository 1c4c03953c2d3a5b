use Rattle.vpf_table.proofs.Decided.{opening_decided}
use Rattle.vpf_table.proofs.laws.tables_decide.Goals as goal

pub returns : goal.returns
returns c = λ bytes index fits fits2. opening_decided c.cells_and_headers.ensures c.laws_of_indexes.ensures bytes index fits fits2
