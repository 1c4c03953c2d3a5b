use Rattle.std.proofs.Common.{◌≡◌, ◌+◌, ◌-◌, Some, length}
use Rattle.vpf_findings.specs.Firsts.{first_over}
use Rattle.vpf_prims.specs.Lists.{kth}
use Rattle.vpf_prims.specs.Primitives.{absent_entity, entities_in}
use Rattle.vpf_prims.specs.Reading.{primitives_of}
use Rattle.vpf_cross.specs.CarriedLines.{inhabited_finding, universe_entity_line}
use Rattle.vpf_cross.proofs.inhabited.check_inhabited.Given as goal

abbrev pub invariant-loop-n : goal.invariant-loop-n
invariant-loop-n l =
    first_over (λ i. universe_entity_line l.number l.tile l.end (i + 1) (kth (entities_in (Some (primitives_of l.tile.tables))) (i + 1) absent_entity)) l.n (length l.end.rows - l.n)
    ≡ inhabited_finding l.number l.tile
