use Rattle.std.proofs.Common.{◌≡◌, ◌++◌, map, take}
use Rattle.std.specs.Prelude.{All}
use Rattle.vpf_cutting.specs.Inner.Copies.Presence.{items_in}
use Rattle.vpf_prims.specs.Libraries.{library_of}
use Rattle.vpf_renumbering.specs.Inner.GluedFaces.Rings.{HasHomeStart, rings_glued}
use Rattle.vpf_renumbering.proofs.glued_faces.RingLemmas.{ring_at}
use Rattle.vpf_renumbering.proofs.glued_faces.faces.GluedFaces.push_face_rings.Given as goal

abbrev pub invariant-loop-ring : goal.invariant-loop-ring
invariant-loop-ring l = record {
  made : rings_glued (library_of l.self) l.rings.items
      ≡ rings_glued (library_of l.self) l.fn.rings.items ++ map (ring_at (library_of l.self) l.tile l.face) (take l.ring-index (items_in l.by_face l.face));
  home : All (HasHomeStart (library_of l.self)) l.rings.items;
}
