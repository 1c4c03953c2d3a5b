use Rattle.std.proofs.Common.{◌≡◌, Some, ◌∙◌, ap, length, leb, subst, sym, true}
use Rattle.std.proofs.lemmas.Bool.{and_parts}
use Rattle.vpf_prims.specs.Numbering.{IsRowOf}
use Rattle.vpf_prims.specs.Primitives.{Primitives, entities_in}
use Rattle.vpf_tiling.specs.Presence.{containing_face, holds_face, local_face}
use Rattle.vpf_cutting.specs.Inner.Cuts.{plan_by}
use Rattle.vpf_cutting.proofs.PlacingLemmas.{entity_row}
use Rattle.vpf_cutting.proofs.cut.Cut.entity.Goals as goal

pub containing_face-face-requires : goal.containing_face-face-requires
containing_face-face-requires c =
    subst (λ (s : Primitives). IsRowOf (length (entities_in (Some s))) c.args.entity) (sym c.source-source.ensures)
    (entity_row c.args.self.now.source (plan_by c.args.self.now.plan) c.args.tile c.args.entity c.requires)

pub local_face-requires : goal.local_face-requires
local_face-requires c =
    subst (λ f. holds_face c.args.self.now.source (plan_by c.args.self.now.plan) c.args.tile f ≡ true)
    (sym (c.containing_face-face.ensures ∙ ap (λ (s : Primitives). containing_face s c.args.entity) c.source-source.ensures))
    (and_parts (leb 1 c.args.entity) (holds_face c.args.self.now.source (plan_by c.args.self.now.plan) c.args.tile (containing_face c.args.self.now.source c.args.entity)) c.requires).1

pub returns-clause-value : goal.returns-clause-value
returns-clause-value c =
    c.local_face.ensures.number
    ∙ ap (local_face c.args.self.now.source (plan_by c.args.self.now.plan) c.args.tile) (c.containing_face-face.ensures ∙ ap (λ (s : Primitives). containing_face s c.args.entity) c.source-source.ensures)
