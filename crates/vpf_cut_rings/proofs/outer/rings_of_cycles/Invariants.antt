use Rattle.std.proofs.Common.{◌≡◌, map, not, take}
use Rattle.std.specs.Prelude.{All, filter}
use Rattle.vpf_cutting.specs.Inner.Cuts.{plan_by}
use Rattle.vpf_darts.specs.Cycles.{first_of}
use Rattle.vpf_darts.specs.Listings.{numbers_of}
use Rattle.vpf_tiling.specs.Presence.{is_within}
use Rattle.vpf_cut_rings.specs.Inner.Rings.{HasSmallNumbers, outer_ring, ring_of}
use Rattle.vpf_cut_rings.proofs.outer.rings_of_cycles.Given as goal

abbrev pub invariant-loop-i : goal.invariant-loop-i
invariant-loop-i l = record {
  made : map ring_of l.rings.items
      ≡ map (outer_ring l.cut.source (plan_by l.cut.plan) l.tile)
      (filter (λ d. not (is_within l.cut.source (plan_by l.cut.plan) l.tile d)) (map first_of (take l.i (numbers_of l.cycles))));
  small : All HasSmallNumbers l.rings.items;
}
