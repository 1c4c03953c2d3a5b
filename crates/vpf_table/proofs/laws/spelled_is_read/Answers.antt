use Rattle.vpf_table.proofs.TableLaws.{table_again}
use Rattle.vpf_table.proofs.laws.spelled_is_read.Goals as goal

pub returns : goal.returns
returns c = λ bytes g t. table_again c.cells_and_headers.ensures g bytes t
