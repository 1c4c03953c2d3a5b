use Rattle.std.proofs.Common.{ap, ◌∙◌}
use Rattle.vpf_darts.specs.Darts.{tile_dart_code}
use Rattle.vpf_darts.specs.Inner.DartLaws.{flip-tile_dart}
use Rattle.vpf_darts.proofs.removing.KeptWalk.flip.Goals as goal

pub returns : goal.returns
returns c = ap tile_dart_code c.flip.ensures ∙ flip-tile_dart c.args.dart
