use Rattle.std.proofs.Common.{◌≡◌, length, ap, ◌∙◌, List, subst}
use Rattle.vpf_prims.specs.declared.rows.Edge.{Edge}
use Rattle.vpf_wing.specs.Inner.Leasts.{AreLeastPlaces}
use Rattle.vpf_wing.proofs.PlaceLemmas.{least_places}
use Rattle.vpf_wing.proofs.places.Cycles.new.Goals as goal

pub invariant_of-result : goal.invariant_of-result
invariant_of-result c =
    let leasts = c.in_ok-leasts.leasts.items in
    let hold = rw c.deref.ensures.value at c.in_ok-leasts.ensures.least in
    let len : length leasts ≡ length c.darts.inside.nexts.items = c.in_ok-leasts.ensures.len ∙ ap length c.deref.ensures.value in
    subst (λ (es : List Edge). AreLeastPlaces es leasts) c.darts.view_is (least_places c.darts.inside.edges.items c.darts.inside.nexts.items leasts c.darts.invariant len hold)
