use Rattle.vpf_library_files.proofs.tileref.LawTileref.{tileref_decides}
use Rattle.vpf_library_files.proofs.tileref.laws.tileref_decides.Goals as goal

pub returns : goal.returns
returns c = tileref_decides
