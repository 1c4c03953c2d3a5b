use Rattle.std.proofs.Common.{◌≡◌, ◌<◌, ◌≤◌, ◌^◌, ◌++◌, ◌∷◌, [], false, map, length, get_or, refl, sym, ap, ◌∙◌, subst, arith}
use Rattle.std.specs.Prelude.{All, filter}
use Rattle.std.proofs.lemmas.List.{take_all}
use Rattle.std.proofs.lemmas.List.Elements.{All-push}
use Rattle.vpf_darts.specs.declared.darts.TileDart.{TileDart}
use Rattle.vpf_darts.specs.Darts.{tile_dart_code}
use Rattle.vpf_renumbering.proofs.glued_edges.PlusLemmas.{is_plus, plus_in_order, plus_left, plus_put}
use Rattle.vpf_renumbering.proofs.glued_edges.edges.plus_darts.Goals as goal
use Rattle.vpf_renumbering.proofs.glued_edges.edges.plus_darts.Goals.{then-not-dart+in_ok-push, else-not-dart}

pub loop-dart-preserved : goal.loop-dart-preserved
loop-dart-preserved c =
    let none : TileDart = record { tile = 0; edge = 0; minus = false } in
    let d : TileDart = get_or c.args.darts.now c.loop-dart.dart-index none in
    elim c.if-not-dart.branch [
      | then-not-dart+in_ok-push w ↦ (
          let pushed : c.if-not-dart.edges.items ≡ c.loop-dart.edges.items ++ d ∷ [] = ap (λ v. v.items) w.edges-is ∙ w.in_ok-push.ensures.items in
          record {
            numbers = ap (map tile_dart_code) pushed
                ∙ plus_put c.args.darts.now c.loop-dart.edges.items c.loop-dart.dart-index none d c.loop-dart-test.true refl w.if-not-dart.true c.loop-dart.invariant.numbers;
            small = subst (All (λ (d : TileDart). d.edge < 2 ^ 32)) (sym pushed)
                (All-push (λ (d : TileDart). d.edge < 2 ^ 32) c.loop-dart.edges.items d c.loop-dart.invariant.small
                (c.requires.small c.loop-dart.dart-index none c.loop-dart-test.true));
          })
      | else-not-dart w ↦ (
          let same : c.if-not-dart.edges.items ≡ c.loop-dart.edges.items = ap (λ v. v.items) w.edges-is in
          record {
            numbers = ap (map tile_dart_code) same
                ∙ plus_left c.args.darts.now c.loop-dart.edges.items c.loop-dart.dart-index none d c.loop-dart-test.true refl w.if-not-dart.false c.loop-dart.invariant.numbers;
            small = subst (All (λ (d : TileDart). d.edge < 2 ^ 32)) (sym same) c.loop-dart.invariant.small;
          })
    ]

pub returns-clause-order : goal.returns-clause-order
returns-clause-order c =
    let all : length c.args.darts.now ≤ c.loop-dart.dart-index = omega arith in
    plus_in_order c.args.darts.now c.loop-dart.edges.items c.requires c.loop-dart.invariant.small
    (c.loop-dart.invariant.numbers ∙ ap (λ ds. filter is_plus (map tile_dart_code ds)) (take_all c.loop-dart.dart-index c.args.darts.now all))
