use Rattle.vpf_vectors.proofs.cells.LawLemmas.{arrows, darts, back}
use Rattle.vpf_vectors.proofs.cells.PlaceLemmas.{corner_of, corner_given, cell_of, cell_given}
use Rattle.vpf_vectors.proofs.cells.laws.numbers_name.Goals as goal

pub returns-clause-arrows : goal.returns-clause-arrows
returns-clause-arrows c = arrows

pub returns-clause-darts : goal.returns-clause-darts
returns-clause-darts c = darts

pub returns-clause-flip : goal.returns-clause-flip
returns-clause-flip c = back

pub returns-clause-corners : goal.returns-clause-corners
returns-clause-corners c = corner_given

pub returns-clause-nodes : goal.returns-clause-nodes
returns-clause-nodes c = corner_of

pub returns-clause-cells : goal.returns-clause-cells
returns-clause-cells c = cell_given

pub returns-clause-faces : goal.returns-clause-faces
returns-clause-faces c = cell_of
