use Rattle.std.proofs.Common.{◌≡◌, ◌+◌, ◌<◌, [], true, map, length, get_or, sym, ap, ◌∙◌, subst, arith}
use Rattle.std.proofs.lemmas.List.{length-map, with_items_is}
use Rattle.vpf_darts.specs.Darts.{tile_dart_code}
use Rattle.vpf_darts.specs.Listings.{numbers_of}
use Rattle.vpf_wing.specs.Inner.DartLaws.{stands_in}
use Rattle.vpf_renumbering.specs.Inner.GluedEdges.Numbers.{AreByFirst, ArePut}
use Rattle.vpf_renumbering.proofs.glued_edges.NumberLemmas.{by_more, listed_is, of_order}
use Rattle.vpf_renumbering.proofs.glued_edges.nodes.turn_numbers.Goals as goal

pub put_turn-requires-clause-there : goal.put_turn-requires-clause-there
put_turn-requires-clause-there c =
    let many : length (numbers_of c.args.turns.now) ≡ length c.args.turns.now = length-map c.args.turns.now (map tile_dart_code) in
    let inside : c.loop-i.i < length (numbers_of c.args.turns.now) = omega arith in
    λ d s. of_order (map tile_dart_code c.args.darts.now) (numbers_of c.args.turns.now) c.requires.once c.loop-i.i d inside
    (subst (λ xs. stands_in d xs ≡ true) (sym (listed_is c.args.turns.now c.loop-i.i c.at.result.now c.at.ensures)) s)

pub loop-i-preserved : goal.loop-i-preserved
loop-i-preserved c =
    let many : length (numbers_of c.args.turns.now) ≡ length c.args.turns.now = length-map c.args.turns.now (map tile_dart_code) in
    let inside : c.loop-i.i < length (numbers_of c.args.turns.now) = omega arith in
    let same : length c.put_turn.new.numbers ≡ length c.loop-i.numbers.items = c.put_turn.ensures.one_each ∙ ap length c.deref_mut.ensures.value in
    let put : ArePut (map tile_dart_code c.args.darts.now) (map tile_dart_code c.at.result.now) (c.loop-i.i + 1) c.loop-i.numbers.items c.put_turn.new.numbers =
    subst (λ old. ArePut (map tile_dart_code c.args.darts.now) (map tile_dart_code c.at.result.now) (c.loop-i.i + 1) old c.put_turn.new.numbers) c.deref_mut.ensures.value
    c.put_turn.ensures in
    let here : ArePut (map tile_dart_code c.args.darts.now) (get_or (numbers_of c.args.turns.now) c.loop-i.i []) (c.loop-i.i + 1) c.loop-i.numbers.items c.put_turn.new.numbers =
    subst (λ xs. ArePut (map tile_dart_code c.args.darts.now) xs (c.loop-i.i + 1) c.loop-i.numbers.items c.put_turn.new.numbers)
    (sym (listed_is c.args.turns.now c.loop-i.i c.at.result.now c.at.ensures)) put in
    subst (AreByFirst (map tile_dart_code c.args.darts.now) (numbers_of c.args.turns.now) (c.loop-i.i + 1))
    (sym (with_items_is c.loop-i.numbers c.put_turn.new.numbers (omega arith)))
    (by_more (map tile_dart_code c.args.darts.now) (numbers_of c.args.turns.now) c.requires.once c.loop-i.i c.loop-i.numbers.items c.put_turn.new.numbers inside
    c.loop-i.invariant here)
