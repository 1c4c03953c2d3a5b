use Rattle.std.proofs.Common.{ap, ◌∙◌, sym}
use Rattle.vpf_darts.specs.Darts.{tile_dart_code}
use Rattle.vpf_cutting.proofs.RowLemmas.{flip_is}
use Rattle.vpf_cutting.proofs.walking.TileWalkWalk.flip.Goals as goal

pub returns : goal.returns
returns c = ap tile_dart_code c.flip.ensures ∙ sym (flip_is c.args.dart.tile c.args.dart.edge c.args.dart.minus)
