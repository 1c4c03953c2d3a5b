use Rattle.vpf_vectors.proofs.cells.CornerRowLemmas.{east_rows, north_rows}
use Rattle.vpf_vectors.proofs.cells.laws.rows_by_corners.Goals as goal

pub returns-clause-east : goal.returns-clause-east
returns-clause-east c = east_rows

pub returns-clause-north : goal.returns-clause-north
returns-clause-north c = north_rows
