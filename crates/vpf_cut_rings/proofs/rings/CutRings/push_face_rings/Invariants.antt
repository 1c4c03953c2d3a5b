use Rattle.std.proofs.Common.{◌≡◌, ◌++◌, map, take}
use Rattle.std.specs.Prelude.{All}
use Rattle.vpf_cutting.specs.Inner.Copies.Presence.{items_in}
use Rattle.vpf_cutting.specs.Inner.Cuts.{plan_by}
use Rattle.vpf_cut_rings.specs.Inner.Rings.{HasSmallNumbers, ring_of}
use Rattle.vpf_cut_rings.proofs.PlaceLemmas.{ring_in}
use Rattle.vpf_cut_rings.proofs.rings.CutRings.push_face_rings.Given as goal

abbrev pub invariant-loop-ring : goal.invariant-loop-ring
invariant-loop-ring l = record {
  made : map ring_of l.rings.items
      ≡ map ring_of l.fn.rings.items
      ++ map (ring_in l.self-inside.cut.now.source (plan_by l.self-inside.cut.now.plan) l.tile l.face) (take l.ring-index (items_in l.self-inside.by_face l.face));
  small : All HasSmallNumbers l.rings.items;
}
