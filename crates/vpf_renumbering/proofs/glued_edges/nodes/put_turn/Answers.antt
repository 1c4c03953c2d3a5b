use Rattle.std.proofs.Common.{◌≡◌, ◌<◌, false, map, length, get_or, set, sym, ap, ◌∙◌, arith}
use Rattle.std.proofs.lemmas.List.{get_or-map, length-map}
use Rattle.vpf_darts.specs.declared.darts.TileDart.{TileDart}
use Rattle.vpf_darts.specs.Darts.{tile_dart_code}
use Rattle.vpf_renumbering.proofs.glued_edges.NumberLemmas.{dart_there, put_more}
use Rattle.vpf_renumbering.proofs.glued_edges.nodes.put_turn.Goals as goal

pub place_of-requires-clause-there : goal.place_of-requires-clause-there
place_of-requires-clause-there c =
    let none : TileDart = record { tile = 0; edge = 0; minus = false } in
    c.requires.there (tile_dart_code (get_or c.args.turn.now c.loop-dart.dart-index none))
    (dart_there c.args.turn.now c.loop-dart.dart-index none c.loop-dart-test.true)

pub loop-dart-preserved : goal.loop-dart-preserved
loop-dart-preserved c =
    let none : TileDart = record { tile = 0; edge = 0; minus = false } in
    let d : TileDart = get_or c.args.turn.now c.loop-dart.dart-index none in
    let many : length (map tile_dart_code c.args.turn.now) ≡ length c.args.turn.now = length-map c.args.turn.now tile_dart_code in
    let inside : c.loop-dart.dart-index < length (map tile_dart_code c.args.turn.now) = omega arith in
    put_more (map tile_dart_code c.args.darts.now) (map tile_dart_code c.args.turn.now) c.args.number c.args.numbers.now c.loop-dart.numbers _ c.loop-dart.dart-index
    (tile_dart_code d) inside (get_or-map tile_dart_code c.args.turn.now c.loop-dart.dart-index none 0 c.loop-dart-test.true)
    (c.requires.one_each ∙ sym (length-map c.args.darts.now tile_dart_code))
    (c.requires.there (tile_dart_code d) (dart_there c.args.turn.now c.loop-dart.dart-index none c.loop-dart-test.true)) c.loop-dart.invariant
    (ap (λ i. set c.loop-dart.numbers i c.args.number) c.place_of.ensures.place)
