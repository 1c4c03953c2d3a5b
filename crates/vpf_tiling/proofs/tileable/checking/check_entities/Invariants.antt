use Rattle.std.proofs.Common.{◌≡◌, ◌+◌, ◌-◌, Some, length}
use Rattle.vpf_findings.specs.Firsts.{first_over}
use Rattle.vpf_prims.specs.Primitives.{entities_in}
use Rattle.vpf_prims.specs.Reading.{primitives_of}
use Rattle.vpf_tiling.specs.Tileable.Refusals.{entity_outside, entities_outside}
use Rattle.vpf_tiling.proofs.tileable.checking.check_entities.Given as goal

abbrev pub invariant-loop-below : goal.invariant-loop-below
invariant-loop-below l = first_over (λ i. entity_outside (primitives_of l.tile.tables) (i + 1)) l.below (length (entities_in (Some (primitives_of l.tile.tables))) - l.below)
    ≡ entities_outside (primitives_of l.tile.tables)
