-- The darts of a well-formed untiled coverage are at home.
use Rattle.std.proofs.Common.{◌≡◌, ℕ, ◌≤◌, Bool, true, false, not, eqb, ◌&&◌, refl, sym, ap, ◌∙◌, subst, inl, inr, Option, None}
use Rattle.std.specs.Prelude.{is_some}
use Rattle.std.proofs.lemmas.Bool.{cases_Bool}
use Rattle.vpf_triplet.specs.declared.triplets.Triplet.{Triplet}
use Rattle.vpf_darts.specs.Darts.{tile_in, edge_in}
use Rattle.vpf_prims.specs.Lists.{kth}
use Rattle.vpf_prims.specs.Primitives.{Primitives, Library, EdgePrimitive, untiled, absent_edge, tile_edges, edge_count}
use Rattle.vpf_wing.specs.Links.{Beyond, Link, DartLinks, links_of, link_of, beyond_of, wing_by, face_by, is_minus}
use Rattle.vpf_follow.specs.Following.{is_far_face, is_home}
use Rattle.vpf_prims.specs.Numbering.{IsPlain, IsReference, IsFace, IsEdgeOf}
use Rattle.vpf_wing.specs.WellFormed.{IsWellFormed}
use Rattle.vpf_wing.specs.Inner.DartLaws.{never_both, IsThere, has-there}
use Rattle.vpf_tiling.specs.Inner.PresenceLaws.{in_zero}

abbrev pub out_in : Triplet → Option Beyond
out_in r = beyond_of r.tile r.ext

pub plain_out : (low last : ℕ) (r : Triplet) → IsPlain low last r → out_in r ≡ None
plain_out low last r p = ap out_in p.is

pub reference_out : (c : Primitives) (count : ℕ → ℕ) (t : ℕ) (r : Triplet) → IsReference (untiled c) count t r → out_in r ≡ None
reference_out c count t r h = elim h [ inl p ↦ plain_out 1 (count t) r p | inr x ↦ absurd (never_both false x.of_tiles refl) ]

pub face_out : (c : Primitives) (t : ℕ) (r : Triplet) → IsFace (untiled c) t r → out_in r ≡ None
face_out c t r h = elim h [ inl p ↦ plain_out 1 _ r p | inr x ↦ absurd (never_both false x.0.of_tiles refl) ]

-- what a dart of a well-formed coverage names has no external part
pub record IsInside (C : DartLinks) (d : ℕ) : Type 0 where
  pub tile : tile_in d ≡ 0
  pub wing : (C.wing d).out ≡ None
  pub face : (C.face d).out ≡ None

pub is_inside_all : (c : Primitives) → IsWellFormed c → (d : ℕ) → (links_of (untiled c)).has d ≡ true → IsInside (links_of (untiled c)) d
is_inside_all c w d h = (
    let L : Library = untiled c in
    let i : IsThere L d = has-there L d h in
    let z : tile_in d ≡ 0 = (in_zero c d h).tile in
    let row : EdgePrimitive = kth (tile_edges L (tile_in d)) (edge_in d) absent_edge in
    let e : IsEdgeOf L 0 (edge_in d) (kth (tile_edges L 0) (edge_in d) absent_edge) =
    w.numbered.edges (edge_in d) (i.from_one, subst (λ t. edge_in d ≤ edge_count L t) z i.to_count) in
    let r : IsEdgeOf L 0 (edge_in d) row = subst (λ t. IsEdgeOf L 0 (edge_in d) (kth (tile_edges L t) (edge_in d) absent_edge)) (sym z) e in
    record { tile = z; wing = wing_out (is_minus d) row r; face = side_out (is_minus d) row r })
  where
    wing_out : (m : Bool) (row : EdgePrimitive) → IsEdgeOf (untiled c) 0 (edge_in d) row → (link_of (wing_by m row)).out ≡ None
    wing_out true row r = reference_out c (edge_count (untiled c)) 0 row.left_edge r.left_edge
    wing_out false row r = reference_out c (edge_count (untiled c)) 0 row.right_edge r.right_edge

    side_out : (m : Bool) (row : EdgePrimitive) → IsEdgeOf (untiled c) 0 (edge_in d) row → (link_of (face_by m row)).out ≡ None
    side_out true row r = face_out c 0 row.left_face r.left_face
    side_out false row r = face_out c 0 row.right_face r.right_face

near_face : (f : Link) → f.out ≡ None → is_far_face f ≡ false
near_face f e = ap (λ o. eqb f.id 1 && is_some o) e ∙ neither (eqb f.id 1)
  where
    neither : (b : Bool) → (b && false) ≡ false
    neither true = refl
    neither false = refl

-- all darts are at home
pub all_home : (c : Primitives) → IsWellFormed c → (d : ℕ) → is_home (links_of (untiled c)) d ≡ (links_of (untiled c)).has d
all_home c w d = let C : DartLinks = links_of (untiled c) in elim (cases_Bool (C.has d)) [
  | inl h ↦ ap (λ b. b && not (is_far_face (C.face d))) h ∙ ap not (near_face (C.face d) (is_inside_all c w d h).face) ∙ sym h
  | inr g ↦ ap (λ b. b && not (is_far_face (C.face d))) g ∙ sym g
]
