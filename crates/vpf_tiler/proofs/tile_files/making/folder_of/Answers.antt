use Rattle.std.proofs.Common.{sym}
use Rattle.vpf_tiler.proofs.tile_files.LibraryLemmas.{path_absent}
use Rattle.vpf_tiler.proofs.tile_files.making.folder_of.Goals as goal

pub returns-in-None : goal.returns-in-None
returns-in-None c = rw (path_absent c.args.paths.now c.args.tile (sym c.in-None.ensures)) c.within-in-None.ensures
