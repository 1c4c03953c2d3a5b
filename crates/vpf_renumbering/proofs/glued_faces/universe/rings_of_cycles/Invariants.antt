use Rattle.std.proofs.Common.{◌≡◌, take}
use Rattle.std.specs.Prelude.{All}
use Rattle.vpf_darts.specs.Listings.{numbers_of}
use Rattle.vpf_prims.specs.Libraries.{library_of}
use Rattle.vpf_renumbering.specs.Inner.GluedFaces.Rings.{HasHomeStart, rings_glued, rings_of_cycles}
use Rattle.vpf_renumbering.proofs.glued_faces.universe.rings_of_cycles.Given as goal

abbrev pub invariant-loop-i : goal.invariant-loop-i
invariant-loop-i l = record {
  made : rings_glued (library_of l.checked) l.rings.items ≡ rings_of_cycles (library_of l.checked) (take l.i (numbers_of l.cycles));
  home : All (HasHomeStart (library_of l.checked)) l.rings.items;
}
