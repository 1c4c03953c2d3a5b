use Rattle.std.proofs.Common.{◌≡◌, ◌∙◌, ◌<◌, ◌≤◌, ◌++◌, ◌∷◌, [], sym, ap, subst, arith, length, map, false, true}
use Rattle.std.specs.Prelude.{All}
use Rattle.std.proofs.lemmas.List.Elements.{All-push}
use Rattle.std.proofs.lemmas.List.{length-map, take_all}
use Rattle.vpf_cutting.specs.Inner.Cuts.{plan_by}
use Rattle.vpf_darts.specs.Darts.{dart_code, tile_dart_code}
use Rattle.vpf_darts.specs.Listings.{numbers_of}
use Rattle.vpf_tiling.specs.Presence.{is_within, local_edge}
use Rattle.vpf_cut_rings.specs.Inner.Rings.{HasSmallNumbers, ring_of}
use Rattle.vpf_cut_rings.proofs.BeginLemmas.{outer_none, outer_one, rings_to}
use Rattle.vpf_cut_rings.proofs.WithinLemmas.{edge_is, edge_of_tile}
use Rattle.vpf_cut_rings.proofs.outer.rings_of_cycles.Goals as goal
use Rattle.vpf_cut_rings.proofs.outer.rings_of_cycles.Goals.{then-not-is_within+in_ok-push, else-not-is_within}

pub local_edge-requires : goal.local_edge-requires
local_edge-requires c =
    (edge_of_tile c.args.cut.now.source (plan_by c.args.cut.now.plan) c.args.tile c.begin_of-first.result.edge c.begin_of-first.result.minus c.begin_of-first.ensures.there).edge

pub loop-i-preserved : goal.loop-i-preserved
loop-i-preserved c =
    let many : length (numbers_of c.args.cycles.now) ≡ length c.args.cycles.now = length-map c.args.cycles.now (map tile_dart_code) in
    let inside : c.loop-i.i < length (numbers_of c.args.cycles.now) = omega arith in
    elim c.if-not-is_within.branch [
      | then-not-is_within+in_ok-push w ↦ (
          let out : is_within c.args.cut.now.source (plan_by c.args.cut.now.plan) c.args.tile (dart_code c.begin_of-first.result) ≡ false =
          sym c.is_within.ensures ∙ w.if-not-is_within.true in
          let pushed : c.if-not-is_within.rings.items ≡ c.loop-i.rings.items ++ record { face = 1; edge = w.local_edge.result } ∷ [] =
          ap (λ v. v.items) w.rings-is ∙ w.in_ok-push.ensures.items in
          record {
            made = outer_one c.args.cut.now.source (plan_by c.args.cut.now.plan) c.args.tile (numbers_of c.args.cycles.now) c.loop-i.i (dart_code c.begin_of-first.result) inside
                c.begin_of-first.ensures.first out c.loop-i.rings.items c.if-not-is_within.rings.items w.local_edge.result
                pushed
                (w.local_edge.ensures.number ∙ ap (local_edge c.args.cut.now.source (plan_by c.args.cut.now.plan) c.args.tile)
                (sym (edge_is c.args.cut.now.source (plan_by c.args.cut.now.plan) c.args.tile c.begin_of-first.result.edge c.begin_of-first.result.minus
                c.plan_holds.ensures.tileable.few c.begin_of-first.ensures.there)))
                c.loop-i.invariant.made;
            small = subst (All HasSmallNumbers) (sym pushed)
                (All-push HasSmallNumbers c.loop-i.rings.items (record { face = 1; edge = w.local_edge.result }) c.loop-i.invariant.small
                (record { face = omega arith; edge = omega (arith, w.local_edge.ensures.few) }));
          })
      | else-not-is_within w ↦ (
          let within : is_within c.args.cut.now.source (plan_by c.args.cut.now.plan) c.args.tile (dart_code c.begin_of-first.result) ≡ true =
          sym c.is_within.ensures ∙ w.if-not-is_within.false in
          record {
            made = ap (λ v. map ring_of v.items) w.rings-is
                ∙ outer_none c.args.cut.now.source (plan_by c.args.cut.now.plan) c.args.tile (numbers_of c.args.cycles.now) c.loop-i.i (dart_code c.begin_of-first.result) inside
                c.begin_of-first.ensures.first within (map ring_of c.loop-i.rings.items) c.loop-i.invariant.made;
            small = subst (All HasSmallNumbers) (sym (ap (λ v. v.items) w.rings-is)) c.loop-i.invariant.small;
          })
    ]

pub returns-clause-rings : goal.returns-clause-rings
returns-clause-rings c =
    let many : length (numbers_of c.args.cycles.now) ≡ length c.args.cycles.now = length-map c.args.cycles.now (map tile_dart_code) in
    let all : length (numbers_of c.args.cycles.now) ≤ c.loop-i.i = omega arith in
    c.loop-i.invariant.made
    ∙ ap (rings_to c.args.cut.now.source (plan_by c.args.cut.now.plan) c.args.tile) (take_all c.loop-i.i (numbers_of c.args.cycles.now) all)
    ∙ sym (c.outer_rings_begin_cycles.ensures c.args.cut.now.source (plan_by c.args.cut.now.plan) c.args.cut.now.tiles c.plan_holds.ensures.tileable c.args.tile
    (numbers_of c.args.cycles.now) c.requires)
