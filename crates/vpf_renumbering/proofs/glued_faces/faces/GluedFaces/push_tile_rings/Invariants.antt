use Rattle.std.proofs.Common.{◌≡◌, ◌++◌}
use Rattle.std.specs.List.{range_with_len}
use Rattle.std.specs.Prelude.{All, flat_map}
use Rattle.vpf_prims.specs.Libraries.{library_of}
use Rattle.vpf_renumbering.specs.Inner.GluedFaces.Rings.{HasHomeStart, rings_said, rings_glued}
use Rattle.vpf_renumbering.proofs.glued_faces.faces.GluedFaces.push_tile_rings.Given as goal

abbrev pub invariant-loop-k : goal.invariant-loop-k
invariant-loop-k l = record {
  made : rings_glued (library_of l.self) l.rings.items
      ≡ rings_glued (library_of l.self) l.fn.rings.items ++ flat_map (rings_said (library_of l.self) l.tile) (range_with_len 2 l.k);
  home : All (HasHomeStart (library_of l.self)) l.rings.items;
}
