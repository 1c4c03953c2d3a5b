use Rattle.std.proofs.Common.{◌≡◌, ◌++◌}
use Rattle.std.specs.List.{range_with_len}
use Rattle.std.specs.Prelude.{All, flat_map}
use Rattle.vpf_prims.specs.Libraries.{library_of}
use Rattle.vpf_tiling_laws.specs.Gluing.Glued.{universe_rings}
use Rattle.vpf_tiling_laws.specs.Gluing.Whole.{whole_of}
use Rattle.vpf_renumbering.specs.Inner.GluedFaces.Rings.{HasHomeStart, rings_glued, rings_of_tile}
use Rattle.vpf_renumbering.proofs.glued_faces.faces.GluedFaces.rings.Given as goal

abbrev pub invariant-loop-tile : goal.invariant-loop-tile
invariant-loop-tile l = record {
  made : rings_glued (library_of l.self) l.rings.items
      ≡ universe_rings (whole_of (library_of l.self)) ++ flat_map (rings_of_tile (library_of l.self)) (range_with_len 0 l.tile);
  home : All (HasHomeStart (library_of l.self)) l.rings.items;
}
