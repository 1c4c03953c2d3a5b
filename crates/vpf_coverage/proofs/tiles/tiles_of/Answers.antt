use Rattle.std.specs.Vec.Iter.{into_iter_items}
use Rattle.vpf_coverage.proofs.TileLemmas.{alike_rest, few_both, made_more, right_both}
use Rattle.vpf_coverage.proofs.tiles.tiles_of.Goals as goal

pub tile_of-requires-clause-few : goal.tile_of-requires-clause-few
tile_of-requires-clause-few c = (few_both (into_iter_items c.loop-views.firsts) (into_iter_items c.next-in-loop-views.new.self) c.in-Some-next.first c.in-Some-next.ensures.items c.loop-views.invariant.few).0

pub loop-views-preserved : goal.loop-views-preserved
loop-views-preserved c =
    let fs = into_iter_items c.loop-views.firsts in
    let firsts = into_iter_items c.next-in-loop-views.new.self in
    let ts = into_iter_items c.loop-views.views-iterator in
    let tiles = into_iter_items c.next.new.self in
    let cs = into_iter_items c.loop-views.columns in
    let columns = into_iter_items c.next-in-loop-views-2.new.self in
    let held = c.loop-views.invariant in
    let first_is = c.in-Some-next.ensures.items in
    let views_is = c.in-Some.ensures.steps.0 in
    let columns_is = c.in-Some-next-2.ensures.items in
    record {
      made = made_more c.loop-views.made.items c.push.new.self.items fs firsts ts tiles c.in-Some-next.first c.in-Some.views c.tile_of.result _ held.made first_is views_is c.in_ok-push.ensures.items c.tile_of.ensures;
      alike = alike_rest fs firsts ts tiles c.in-Some-next.first c.in-Some.views first_is views_is held.alike;
      right = (right_both ts tiles cs columns c.in-Some.views c.in-Some-next-2.columns views_is columns_is held.right).1;
      few = (few_both fs firsts c.in-Some-next.first first_is held.few).1;
    }
