use Rattle.vpf_vectors.proofs.cells.TileLemmas.{faces_have_tiles, tiles_have_faces, east_lines, north_lines}
use Rattle.vpf_vectors.proofs.cells.laws.tiles_of_the_grid.Goals as goal

pub returns-clause-faces : goal.returns-clause-faces
returns-clause-faces c = faces_have_tiles

pub returns-clause-tiles : goal.returns-clause-tiles
returns-clause-tiles c = tiles_have_faces

pub returns-clause-east : goal.returns-clause-east
returns-clause-east c = east_lines

pub returns-clause-north : goal.returns-clause-north
returns-clause-north c = north_lines
