use Rattle.vpf_library_files.proofs.tileref.LawTileref.{stops_decide}
use Rattle.vpf_library_files.proofs.tileref.laws.stops_decide.Goals as goal

pub returns : goal.returns
returns c = stops_decide
