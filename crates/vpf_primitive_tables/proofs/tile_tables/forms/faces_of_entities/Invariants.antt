use Rattle.std.proofs.Common.{◌≡◌, ℕ, ◌<◌, ◌^◌, map, take}
use Rattle.std.specs.Prelude.{All}
use Rattle.vpf_tiling.specs.Presence.{containing_face, local_face}
use Rattle.vpf_cutting.specs.Inner.Cuts.{plan_by}
use Rattle.vpf_primitive_tables.proofs.tile_tables.forms.faces_of_entities.Given as goal

abbrev pub invariant-loop-entity : goal.invariant-loop-entity
invariant-loop-entity l = record {
  made : l.faces.items ≡ map (λ (n : ℕ). local_face l.cut.source (plan_by l.cut.plan) l.tile (containing_face l.cut.source n)) (take l.entity-index l.entities);
  small : All (λ (face : ℕ). face < 2 ^ 31) l.faces.items;
}
