use Rattle.std.proofs.Common.{◌≡◌, ℕ, true, arith}
use Rattle.std.proofs.lemmas.List.Elements.{All-get_or}
use Rattle.vpf_tiling.specs.Presence.{holds_entity}
use Rattle.vpf_cutting.specs.Inner.Cuts.{plan_by}
use Rattle.vpf_primitive_tables.proofs.tile_tables.forms.faces_of_entities.Goals as goal

pub entity-requires : goal.entity-requires
entity-requires c =
    let cut = c.args.cut.now in
    All-get_or (λ (entity : ℕ). holds_entity cut.source (plan_by cut.plan) c.args.tile entity ≡ true) c.entities_in-entities.result.now c.loop-entity.entity-index 0 (omega arith) c.entities_in-entities.ensures.each
