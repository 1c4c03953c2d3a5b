use Rattle.std.proofs.Common.{◌<◌, ◌^◌, false, arith}
use Rattle.vpf_darts.specs.declared.darts.TileDart.{TileDart}
use Rattle.vpf_cross.proofs.DartLemmas.{dart_in, flip_in}
use Rattle.vpf_cross.proofs.homes.check_copies.Goals as goal

pub check_copy-requires-clause-dart : goal.check_copy-requires-clause-dart
check_copy-requires-clause-dart c =
    let small : c.args.k < 2 ^ 32 = omega arith in
    let plus : TileDart = record { tile = c.args.number; edge = c.args.k; minus = false } in
    dart_in c.args.followed.now c.args.tile.now plus c.requires.tile small c.requires.row

pub check_copy-requires-2-clause-dart : goal.check_copy-requires-2-clause-dart
check_copy-requires-2-clause-dart c =
    let small : c.args.k < 2 ^ 32 = omega arith in
    let plus : TileDart = record { tile = c.args.number; edge = c.args.k; minus = false } in
    flip_in c.args.followed.now plus c.flip.result c.flip.ensures (dart_in c.args.followed.now c.args.tile.now plus c.requires.tile small c.requires.row)
