use Rattle.vpf_vectors.specs.Library.{tiles}
use Rattle.vpf_vectors.proofs.library.tileref_bytes.Goals as goal

pub returns : goal.returns
unfolding tiles
returns c = c.tileref_table.ensures
