use Rattle.std.proofs.Common.{◌≡◌, ◌++◌, ◌<◌, ◌^◌, length}
use Rattle.std.specs.Prelude.{All}
use Rattle.std.specs.Vec.Iter.{into_iter_items}
use Rattle.vpf_coverage.specs.Inner.Opening.Opened.{placed_views}
use Rattle.vpf_coverage.specs.Inner.Opened.{AreAllRight}
use Rattle.vpf_coverage.proofs.tiles.tiles_of.Given as goal

abbrev pub invariant-loop-views : goal.invariant-loop-views
invariant-loop-views l = record {
  made : l.made.items ++ placed_views (into_iter_items l.firsts) (into_iter_items l.views-iterator) ≡ placed_views l.fn.firsts.items l.fn.tiles.items;
  alike : length (into_iter_items l.firsts) ≡ length (into_iter_items l.views-iterator);
  right : AreAllRight (into_iter_items l.views-iterator) (into_iter_items l.columns);
  few : All (λ first. first < 2 ^ 31) (into_iter_items l.firsts);
}
