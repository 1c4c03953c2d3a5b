use Rattle.std.proofs.Common.{◌≡◌, map}
use Rattle.std.specs.List.{range_with_len}
use Rattle.vpf_prims.specs.Libraries.{library_of}
use Rattle.vpf_renumbering.specs.Inner.GluedFaces.Faces.{faces_before}
use Rattle.vpf_renumbering.proofs.glued_faces.counting.counts.Given as goal

abbrev pub invariant-loop-tile : goal.invariant-loop-tile
invariant-loop-tile l = record {
  count : l.count ≡ faces_before (library_of l.coverage) l.tile;
  counted : l.counts.items ≡ map (faces_before (library_of l.coverage)) (range_with_len 0 l.tile);
}
