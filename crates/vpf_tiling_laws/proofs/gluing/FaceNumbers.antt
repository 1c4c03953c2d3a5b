-- The faces of the renumbered coverage are those of the coverage under new numbers.
use Rattle.std.proofs.Common.{◌≡◌, ◌≢◌, ℕ, suc, ◌+◌, ◌<◌, ◌≤◌, Bool, true, cond, refl, sym, ap, ◌∙◌, subst, inl, inr, arith, Some, None, List, [], ◌∷◌}
use Rattle.std.proofs.Common.{length, map, get_or}
use Rattle.std.specs.Option.{option_eq}
use Rattle.std.specs.List.{list_any, AllByRecursion}
use Rattle.std.proofs.lemmas.Bool.{cases_eq, ne_eqb}
use Rattle.std.proofs.lemmas.List.{get_or-map, length-map}
use Rattle.vpf_value.specs.Values.{Value}
use Rattle.vpf_prims.specs.Lists.{kth, first_item}
use Rattle.vpf_prims.specs.Numbering.{IsRowOf}
use Rattle.vpf_prims.specs.Primitives.{Primitives, absent_face}
use Rattle.vpf_follow.specs.Following.{same_beyond}
use Rattle.vpf_tiling.specs.Ranks.{numbered, up_to}
use Rattle.vpf_tiling.specs.Inner.RankLaws.{numbered_many}
use Rattle.vpf_tiling.specs.Presence.{held_faces, holds_face, local_face}
use Rattle.vpf_tiling.specs.Inner.PresenceLaws.{InFaces, holds_from, stands_filter, up_stands}
use Rattle.vpf_tiling.specs.Plans.{IsTileable}
use Rattle.vpf_tiling_laws.proofs.tiled.PlaceLemmas.{FirstAt, all_flat, all_get, all_of, any_flat, first_at, stands_passing}
use Rattle.vpf_tiling_laws.proofs.tiled.RowLemmas.{numbered_at}
use Rattle.vpf_tiling_laws.proofs.tiled.SideLemmas.{names_apart, same_beyond-refl, whole_name}
use Rattle.vpf_tiling_laws.proofs.tiled.TableLemmas.{HeldFace, held_is}
use Rattle.vpf_tiling_laws.specs.Gluing.Whole.{Whole, WholeFace, named_face, whole_named}
use Rattle.vpf_tiling_laws.specs.Gluing.Glued.{face_number, glued_face, glued_rings}
use Rattle.vpf_tiling_laws.specs.Inner.Gluing.Renumbering.{FacesAreMoved, FacesStayApart, new_face}
use Rattle.vpf_tiling_laws.proofs.gluing.PlaceLemmas.{any_mapped}

-- a face of the named whole is a face of the coverage
record IsNamedFace (c : Primitives) (plan : ℕ → ℕ) (x : WholeFace) : Type 0 where
  face : ℕ
  there : InFaces c face
  other : face ≢ 1
  is : x ≡ named_face c plan face

all_named : (c : Primitives) (plan : ℕ → ℕ) (tiles : ℕ) → AllByRecursion (IsNamedFace c plan) (whole_named c plan tiles).faces
all_named c plan tiles =
    all_flat (IsNamedFace c plan) (λ t. map (named_face c plan) (held_faces c plan t)) (up_to tiles)
    (λ t s. all_of (IsNamedFace c plan) (named_face c plan) (held_faces c plan t) (λ f i. (
    let k : HeldFace c plan t f = held_is c plan t f (stands_passing (holds_face c plan t) f (up_to (length c.faces)) i).0 in
    record { face = f; there = k.faces; other = k.other; is = refl })))

-- the name of a face but the universe
name_other : (c : Primitives) (plan : ℕ → ℕ) (f : ℕ) → f ≢ 1 → whole_name c plan f ≡ Some (named_face c plan f).at
name_other c plan f ne = ap (λ b. cond b None (Some (named_face c plan f).at)) (ne_eqb f 1 ne)

-- two faces at one place are one
same_names : (c : Primitives) (plan : ℕ → ℕ) (g f : ℕ) → g ≢ 1 → f ≢ 1 → same_beyond (named_face c plan g).at (named_face c plan f).at ≡ true
    → option_eq same_beyond (whole_name c plan g) (whole_name c plan f) ≡ true
same_names c plan g f ng nf h = rw (ne_eqb g 1 ng, ne_eqb f 1 nf) h

passes_too : (q : WholeFace → Bool) (x y : WholeFace) → x ≡ y → q x ≡ true → q y ≡ true
passes_too q x y e h = ap q (sym e) ∙ h

-- where a face of the coverage stands in it
record FaceAt (c : Primitives) (plan : ℕ → ℕ) (tiles f : ℕ) : Type 0 where
  place : ℕ
  is : new_face c plan tiles f ≡ suc (suc place)
  below : place < length (whole_named c plan tiles).faces
  item : get_or (whole_named c plan tiles).faces place (named_face c plan 0) ≡ named_face c plan f

face_at : (c : Primitives) (plan : ℕ → ℕ) (tiles : ℕ) → IsTileable c plan tiles → (f : ℕ) → f ≢ 1 → InFaces c f → FaceAt c plan tiles f
face_at c plan tiles w f ne i = (
    let W : Whole = whole_named c plan tiles in
    let q : WholeFace → Bool = λ x. same_beyond x.at (record { tile = plan f; id = local_face c plan (plan f) f }) in
    let one = i.from_one in
    let two : 2 ≤ f = omega arith in
    let h : holds_face c plan (plan f) f ≡ true = holds_from c plan (plan f) f i ne refl in
    let in_tile : list_any q (map (named_face c plan) (held_faces c plan (plan f))) ≡ true =
    any_mapped q (named_face c plan) f (held_faces c plan (plan f))
    (stands_filter (holds_face c plan (plan f)) f (up_to (length c.faces)) h (up_stands (length c.faces) f one i.to_last))
    (same_beyond-refl (Some (named_face c plan f).at)) in
    let there : list_any q W.faces ≡ true =
    any_flat q (λ t. map (named_face c plan) (held_faces c plan t)) (plan f) (up_to tiles)
    (up_stands tiles (plan f) (w.plans.from_one f two i.to_last) (w.plans.to_last f two i.to_last)) in_tile in
    let r : FirstAt q W.faces (named_face c plan 0) 1 (first_item q W.faces) = first_at q (named_face c plan 0) 1 W.faces there in
    let x : WholeFace = get_or W.faces r.place (named_face c plan 0) in
    let n : IsNamedFace c plan x = all_get (IsNamedFace c plan) W.faces r.place (named_face c plan 0) (all_named c plan tiles) r.below in
    let passes : q (named_face c plan n.face) ≡ true = passes_too q x (named_face c plan n.face) n.is r.passes in
    let same : n.face ≡ f = names_apart c plan n.face f n.there i (same_names c plan n.face f n.other ne passes) in
    let number : new_face c plan tiles f ≡ 1 + first_item q W.faces =
    ap (λ b. face_number W (cond b None (Some (record { tile = plan f; id = local_face c plan (plan f) f })))) (ne_eqb f 1 ne) in
    let at : first_item q W.faces ≡ r.place + 1 = r.is in
    let p : ℕ = r.place in
    let s : 1 + (p + 1) ≡ suc (suc p) = omega arith in
    record { place = p; is = number ∙ ap (λ v. 1 + v) at ∙ s; below = r.below; item = n.is ∙ ap (named_face c plan) same })

-- the carried cells of the faces, the universe first
abbrev face_rows : Whole → List (List Value)
face_rows w = w.universe ∷ map (λ f. f.carried) w.faces

pub faces_are_moved : FacesAreMoved
faces_are_moved c plan tiles w f r = (
    let W : Whole = whole_named c plan tiles in
    let many : length (numbered (glued_face (glued_rings W)) (face_rows W)) ≡ length (face_rows W) =
    numbered_many (glued_face (glued_rings W)) 1 (face_rows W) in
    let mapped : length (map (λ (x : WholeFace). x.carried) W.faces) ≡ length W.faces = length-map W.faces (λ (x : WholeFace). x.carried) in
    elim (cases_eq f 1) [
      | inl e ↦ (
          let k : new_face c plan tiles f ≡ 1 = ap (new_face c plan tiles) e in
          record {
            number = subst (IsRowOf (length (numbered (glued_face (glued_rings W)) (face_rows W)))) (sym k) (omega arith, omega arith);
            carried =
                ap (λ n. (kth (numbered (glued_face (glued_rings W)) (face_rows W)) n absent_face).carried) k
                ∙ ap (λ n. (kth c.faces n absent_face).carried) (sym e);
          })
      | inr ne ↦ (
          let a : FaceAt c plan tiles f = face_at c plan tiles w f ne (record { from_one = r.0; to_last = r.1 }) in
          let below = a.below in
          let p : ℕ = a.place in
          record {
            number = subst (IsRowOf (length (numbered (glued_face (glued_rings W)) (face_rows W)))) (sym a.is) (omega arith, omega arith);
            carried =
                ap (λ n. (kth (numbered (glued_face (glued_rings W)) (face_rows W)) n absent_face).carried) a.is
                ∙ ap (λ row. row.carried)
                (numbered_at (glued_face (glued_rings W)) 2 (map (λ (x : WholeFace). x.carried) W.faces) p absent_face [] (omega arith))
                ∙ get_or-map (λ (x : WholeFace). x.carried) W.faces p (named_face c plan 0) [] below
                ∙ ap (λ (x : WholeFace). x.carried) a.item;
          })
    ])

pub faces_stay_apart : FacesStayApart
faces_stay_apart c plan tiles w f g rf rg same = elim (cases_eq f 1) [
  | inl ef ↦ (elim (cases_eq g 1) [
    | inl eg ↦ ef ∙ sym eg
    | inr ng ↦ (
        let b : FaceAt c plan tiles g = face_at c plan tiles w g ng (record { from_one = rg.0; to_last = rg.1 }) in
        let p : ℕ = b.place in
        let e : 1 ≡ suc (suc p) = sym (ap (new_face c plan tiles) ef) ∙ same ∙ b.is in
        absurd (omega arith))
  ])
  | inr nf ↦ (
      let a : FaceAt c plan tiles f = face_at c plan tiles w f nf (record { from_one = rf.0; to_last = rf.1 }) in
      let p : ℕ = a.place in
      elim (cases_eq g 1) [
        | inl eg ↦ (let e : suc (suc p) ≡ 1 = sym a.is ∙ same ∙ ap (new_face c plan tiles) eg in absurd (omega arith))
        | inr ng ↦ (
            let b : FaceAt c plan tiles g = face_at c plan tiles w g ng (record { from_one = rg.0; to_last = rg.1 }) in
            let q : ℕ = b.place in
            let e : suc (suc p) ≡ suc (suc q) = sym a.is ∙ same ∙ b.is in
            let places : p ≡ q = omega arith in
            let rows : named_face c plan f ≡ named_face c plan g =
            sym a.item ∙ ap (λ i. get_or (whole_named c plan tiles).faces i (named_face c plan 0)) places ∙ b.item in
            let names : whole_name c plan f ≡ whole_name c plan g =
            name_other c plan f nf ∙ ap (λ (x : WholeFace). Some x.at) rows ∙ sym (name_other c plan g ng) in
            names_apart c plan f g (record { from_one = rf.0; to_last = rf.1 }) (record { from_one = rg.0; to_last = rg.1 })
            (subst (λ z. option_eq same_beyond (whole_name c plan f) z ≡ true) names (same_beyond-refl (whole_name c plan f))))
      ])
]
