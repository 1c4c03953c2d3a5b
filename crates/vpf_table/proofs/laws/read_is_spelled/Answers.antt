use Rattle.vpf_table.proofs.TableLaws.{table_takes}
use Rattle.vpf_table.proofs.laws.read_is_spelled.Goals as goal

pub returns : goal.returns
returns c = λ bytes g fits e. table_takes c.cells_and_headers.ensures bytes g fits e
