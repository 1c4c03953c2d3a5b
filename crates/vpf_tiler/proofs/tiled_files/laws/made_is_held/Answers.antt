use Rattle.vpf_tiler.proofs.tiled_files.MadeLibrary.{made_is_held}
use Rattle.vpf_tiler.specs.Inner.TiledFiles.WrittenLaws.{table_opens}
use Rattle.vpf_tiler.proofs.tiled_files.laws.made_is_held.Goals as goal

pub returns : goal.returns
returns c = made_is_held (table_opens c.fitting_is_written.ensures.spelled c.written_is_read.ensures.spelled c.canonical_is_read.ensures.spelled)
