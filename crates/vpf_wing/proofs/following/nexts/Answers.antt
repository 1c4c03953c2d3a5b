use Rattle.std.proofs.Common.{rules, ◌≡◌, ◌<◌, ◌*◌, length, Some, None, sym, ◌∙◌, refl, arith, get_or}
use Rattle.std.proofs.lemmas.Grind.{common_steps}
use Rattle.std.proofs.lemmas.List.Elements.{All-push}
use Rattle.vpf_darts.specs.MapLists.{IsInRange}
use Rattle.vpf_wing.specs.Nexts.{next_dart, dart_at}
use Rattle.vpf_wing.specs.Wings.{wing_line}
use Rattle.vpf_findings.specs.Inner.FirstLaws.{over_pass, over_found}
use Rattle.vpf_wing.proofs.MapLemmas.{place_inside}
use Rattle.vpf_wing.proofs.NextLemmas.{owners_more, line_free, line_none, line_taken, nexts_more}
use Rattle.vpf_wing.proofs.following.nexts.Goals as goal

pub returns-in_default-clause-first : goal.returns-in_default-clause-first
returns-in_default-clause-first g c =
    let columns = c.args.columns.now in
    let edges = g.E.WingedEdges.edges c.args.edges.now in
    let cell = g.E.WingedEdges.wing_value c.args.edges.now in
    let none : next_dart edges (dart_at c.loop-place.place) ≡ None = grind (arith, common_steps) in
    let h : c.loop-place.place < 2 * length edges = omega arith in
    over_found (wing_line columns cell edges) c.loop-place.place (2 * length edges) _ _ _ c.loop-place.invariant.left h (line_none columns cell edges c.loop-place.place none) (rw (c.no_next.ensures, c.dart_at-dart.ensures) refl)

pub index-requires : goal.index-requires
index-requires g c = place_inside (length (g.E.WingedEdges.edges c.args.edges.now)) c.in-Some.next c.place_of-owned.result c.in-Some.ensures.edge c.place_of-owned.ensures (omega (arith, c.loop-place.invariant.room))

pub returns-in-Some-index-clause-first : goal.returns-in-Some-index-clause-first
returns-in-Some-index-clause-first g c =
    let i = c.loop-place.invariant in
    let columns = c.args.columns.now in
    let edges = g.E.WingedEdges.edges c.args.edges.now in
    let cell = g.E.WingedEdges.wing_value c.args.edges.now in
    let n = c.loop-place.place in
    let is : next_dart edges (dart_at n) ≡ Some c.in-Some.next = sym (rw c.dart_at-dart.ensures at c.in-Some.ensures.next) in
    let in' : c.place_of-owned.result < length c.loop-place.owners.items = place_inside (length edges) c.in-Some.next c.place_of-owned.result c.in-Some.ensures.edge c.place_of-owned.ensures i.room in
    let taken : get_or c.loop-place.owners.items c.place_of-owned.result None ≡ Some c.in-Some-index.owner = grind (arith, common_steps) in
    let h : n < 2 * length edges = omega arith in
    over_found (wing_line columns cell edges) n (2 * length edges) _ _ _ i.left h
    (line_taken columns cell edges c.loop-place.owners.items n c.place_of-owned.result c.in-Some.next c.in-Some-index.owner in' c.place_of-owned.ensures is taken i.owners)
    (rw (c.repeated.ensures, c.dart_at-dart.ensures) refl)

pub index_mut-requires : goal.index_mut-requires
index_mut-requires g c = place_inside (length (g.E.WingedEdges.edges c.args.edges.now)) c.in-Some.next c.place_of-owned.result c.in-Some.ensures.edge c.place_of-owned.ensures (omega (arith, c.loop-place.invariant.room))

pub loop-place-preserved : goal.loop-place-preserved
loop-place-preserved g c =
    let i = c.loop-place.invariant in
    let columns = c.args.columns.now in
    let edges = g.E.WingedEdges.edges c.args.edges.now in
    let cell = g.E.WingedEdges.wing_value c.args.edges.now in
    let n = c.loop-place.place in
    let owners = c.loop-place.owners.items in
    let is : next_dart edges (dart_at n) ≡ Some c.in-Some.next = sym (rw c.dart_at-dart.ensures at c.in-Some.ensures.next) in
    let in' : c.place_of-owned.result < length c.loop-place.owners.items = place_inside (length edges) c.in-Some.next c.place_of-owned.result c.in-Some.ensures.edge c.place_of-owned.ensures i.room in
    let free : get_or c.loop-place.owners.items c.place_of-owned.result None ≡ None = grind (arith, common_steps) in
    let h : n < 2 * length edges = omega arith in
    record {
      left = over_pass (wing_line columns cell edges) n (2 * length edges) h (line_free columns cell edges owners n c.place_of-owned.result c.in-Some.next in' c.place_of-owned.ensures is free i.owners) ∙ i.left;
      room = search rules;
      owners = rw c.dart_at-dart.ensures (owners_more edges owners n c.place_of-owned.result c.in-Some.next in' c.place_of-owned.ensures is free i.owners);
      count = search rules;
      nexts = rw c.in_ok-push.ensures.items (nexts_more edges c.loop-place.nexts.items n c.in-Some.next i.count is i.nexts);
      in_range = rw c.in_ok-push.ensures.items (All-push (IsInRange (2 * length edges)) c.loop-place.nexts.items c.in-Some.next i.in_range (omega (arith, c.in-Some.ensures.edge.0), omega (arith, c.in-Some.ensures.edge.1)));
    }
