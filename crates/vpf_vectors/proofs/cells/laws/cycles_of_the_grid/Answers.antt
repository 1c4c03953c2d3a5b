use Rattle.vpf_vectors.proofs.cells.LawLemmas.{face, border}
use Rattle.vpf_vectors.proofs.cells.NodeLemmas.{node_is_one_cycle}
use Rattle.vpf_vectors.proofs.cells.CellLemmas.{cell_is_one_cycle}
use Rattle.vpf_vectors.proofs.cells.laws.cycles_of_the_grid.Goals as goal

pub returns-clause-node : goal.returns-clause-node
returns-clause-node c = node_is_one_cycle

pub returns-clause-face : goal.returns-clause-face
returns-clause-face c = face

pub returns-clause-cell : goal.returns-clause-cell
returns-clause-cell c = cell_is_one_cycle

pub returns-clause-border : goal.returns-clause-border
returns-clause-border c = border
