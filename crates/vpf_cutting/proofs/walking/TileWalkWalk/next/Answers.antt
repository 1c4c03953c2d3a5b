use Rattle.std.proofs.Common.{◌<◌, ◌^◌, ap, ◌∙◌, sym, arith}
use Rattle.vpf_tiling.specs.Presence.{next_of}
use Rattle.vpf_cutting.proofs.DartLemmas.{same_code, tile_dart_row}
use Rattle.vpf_cutting.proofs.walking.TileWalkWalk.next.Goals as goal

pub next-next-requires : goal.next-next-requires
next-next-requires c =
    let small : c.args.dart.edge < 2 ^ 32 = omega arith in
    tile_dart_row c.args.self.now.cut.now.source c.args.dart small c.requires

pub returns : goal.returns
returns c =
    let small : c.args.dart.edge < 2 ^ 32 = omega arith in
    c.next-next.ensures.next ∙ ap (next_of c.args.self.now.cut.now.source) (sym (same_code c.args.self.now.cut.now.source c.args.dart small c.requires))
