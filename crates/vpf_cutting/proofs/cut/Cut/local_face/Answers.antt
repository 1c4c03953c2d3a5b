use Rattle.std.proofs.Common.{◌≡◌, ◌+◌, ◌^◌, ◌<◌, ap, ◌∙◌, subst, sym, arith}
use Rattle.std.specs.Prelude.{count_by}
use Rattle.std.specs.List.{range_with_len}
use Rattle.vpf_tiling.specs.Presence.{holds_face, local_face}
use Rattle.vpf_wing.specs.Inner.DartLaws.{none_is_some, same_some}
use Rattle.vpf_cutting.specs.Inner.Cuts.{AreCutFaces, plan_by}
use Rattle.vpf_cutting.proofs.ListLemmas.{face_few, number_is}
use Rattle.vpf_cutting.proofs.cut.Cut.local_face.Goals as goal

pub unreachable-requires : goal.unreachable-requires
unreachable-requires c =
    let is : AreCutFaces c.args.self.now c.self.inside.faces = subst (λ k. AreCutFaces k c.self.inside.faces) c.self.view_is c.self.invariant.faces in
    none_is_some _ (c.in-None.ensures ∙ number_is _ _ _ _ is c.args.tile c.args.face c.requires)

pub returns-clause-number : goal.returns-clause-number
returns-clause-number c =
    let is : AreCutFaces c.args.self.now c.self.inside.faces = subst (λ k. AreCutFaces k c.self.inside.faces) c.self.view_is c.self.invariant.faces in
    ap (λ n. n + 1) (same_some c.in-Some.number _ (c.in-Some.ensures ∙ number_is _ _ _ _ is c.args.tile c.args.face c.requires))
    ∙ sym (c.local_numbers_count.ensures.faces c.args.self.now.source (plan_by c.args.self.now.plan) c.args.tile c.args.face c.requires)

pub returns-clause-some : goal.returns-clause-some
returns-clause-some c =
    let number : c.in-Some.number + 1 ≡ local_face c.args.self.now.source (plan_by c.args.self.now.plan) c.args.tile c.args.face = returns-clause-number c in
    omega arith

pub returns-clause-few : goal.returns-clause-few
returns-clause-few c =
    let is : AreCutFaces c.args.self.now c.self.inside.faces = subst (λ k. AreCutFaces k c.self.inside.faces) c.self.view_is c.self.invariant.faces in
    subst (λ n. n < 2 ^ 24 + 1) (sym (returns-clause-number c)) (face_few c.local_numbers_count.ensures.faces c.args.self.now.source (plan_by c.args.self.now.plan) c.args.tile c.args.face is.few c.requires)

pub overflow_add-result : goal.overflow_add-result
overflow_add-result c =
    let is : AreCutFaces c.args.self.now c.self.inside.faces = subst (λ k. AreCutFaces k c.self.inside.faces) c.self.view_is c.self.invariant.faces in
    let is_number : c.in-Some.number ≡ count_by (holds_face c.args.self.now.source (plan_by c.args.self.now.plan) c.args.tile) (range_with_len 1 c.args.face) =
    same_some c.in-Some.number _ (c.in-Some.ensures ∙ number_is _ _ _ _ is c.args.tile c.args.face c.requires) in
    let law : local_face c.args.self.now.source (plan_by c.args.self.now.plan) c.args.tile c.args.face ≡ count_by (holds_face c.args.self.now.source (plan_by c.args.self.now.plan) c.args.tile) (range_with_len 1 c.args.face) + 1 = c.local_numbers_count.ensures.faces c.args.self.now.source (plan_by c.args.self.now.plan) c.args.tile c.args.face c.requires in
    let few : local_face c.args.self.now.source (plan_by c.args.self.now.plan) c.args.tile c.args.face < 2 ^ 24 + 1 = face_few c.local_numbers_count.ensures.faces c.args.self.now.source (plan_by c.args.self.now.plan) c.args.tile c.args.face is.few c.requires in
    omega arith
