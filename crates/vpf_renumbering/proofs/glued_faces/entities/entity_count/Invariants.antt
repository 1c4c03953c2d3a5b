use Rattle.std.proofs.Common.{◌≡◌, ◌*◌, ◌^◌, ◌≤◌, length}
use Rattle.std.specs.List.{range_with_len}
use Rattle.std.specs.Prelude.{flat_map}
use Rattle.vpf_prims.specs.Libraries.{library_of}
use Rattle.vpf_tiling_laws.specs.Gluing.Whole.{whole_entities}
use Rattle.vpf_renumbering.proofs.glued_faces.entities.entity_count.Given as goal

abbrev pub invariant-loop-tile : goal.invariant-loop-tile
invariant-loop-tile l = record {
  count : l.count ≡ length (flat_map (whole_entities (library_of l.coverage)) (range_with_len 0 l.tile));
  room : l.count ≤ l.tile * 2 ^ 24;
}
