use Rattle.std.proofs.Common.{◌≡◌, ◌<◌, ◌^◌, Some, sym, ap, ◌∙◌, arith}
use Rattle.vpf_wing.specs.Links.{Beyond, beyond_of}
use Rattle.vpf_cross.specs.Carrying.{difference_of}
use Rattle.vpf_cross.proofs.CarriedLemmas.{head_alone, head_absent, head_there, no_difference, some_difference}
use Rattle.vpf_cross.proofs.carried.check_head_node.Goals as goal

pub returns-in_default : goal.returns-in_default
returns-in_default c =
    let small : c.args.k < 2 ^ 32 = omega arith in
    head_alone c.args.coverage.now c.args.number c.args.tile.now c.args.k c.args.minus c.head_node-node.result c.requires.tile small c.head_node-node.ensures (sym c.external_part.ensures ∙ c.in_default.is)

pub returns-in_default-tile : goal.returns-in_default-tile
returns-in_default-tile c =
    let small : c.args.k < 2 ^ 32 = omega arith in
    let part : Beyond = record { tile = c.other.inside.tile; id = c.other.inside.id } in
    let some : beyond_of c.head_node-node.result.tile c.head_node-node.result.ext ≡ Some part = sym c.external_part.ensures ∙ c.in-Some.is ∙ ap Some (sym c.other.view_is) in
    head_absent c.args.coverage.now c.args.number c.args.tile.now c.args.k c.args.minus c.head_node-node.result part c.requires.tile small c.head_node-node.ensures some (sym c.in_default-tile.ensures)

pub returns-in-None : goal.returns-in-None
returns-in-None c =
    let small : c.args.k < 2 ^ 32 = omega arith in
    let part : Beyond = record { tile = c.other.inside.tile; id = c.other.inside.id } in
    let some : beyond_of c.head_node-node.result.tile c.head_node-node.result.ext ≡ Some part = sym c.external_part.ensures ∙ c.in-Some.is ∙ ap Some (sym c.other.view_is) in
    let line = head_there c.args.coverage.now c.args.number c.args.tile.now c.in-Some-tile.there.now c.args.k c.args.minus c.head_node-node.result part c.requires.tile small c.head_node-node.ensures some (sym c.in-Some-tile.ensures) in
    no_difference _ _ _ line (rw c.id_of.ensures at c.in-None.ensures)

pub returns-in-Some-node_difference : goal.returns-in-Some-node_difference
returns-in-Some-node_difference c =
    let small : c.args.k < 2 ^ 32 = omega arith in
    let part : Beyond = record { tile = c.other.inside.tile; id = c.other.inside.id } in
    let some : beyond_of c.head_node-node.result.tile c.head_node-node.result.ext ≡ Some part = sym c.external_part.ensures ∙ c.in-Some.is ∙ ap Some (sym c.other.view_is) in
    let line = head_there c.args.coverage.now c.args.number c.args.tile.now c.in-Some-tile.there.now c.args.k c.args.minus c.head_node-node.result part c.requires.tile small c.head_node-node.ensures some (sym c.in-Some-tile.ensures) in
    rw (c.finding.ensures, c.node_citation.ensures) (some_difference _ _ _ (difference_of c.in-Some-node_difference.found) line (rw c.id_of.ensures at c.in-Some-node_difference.ensures))
