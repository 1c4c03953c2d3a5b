-- The faces and the homes of the darts of a coverage, and the numbers and names that tell them apart.
use Rattle.std.proofs.Common.{◌≡◌, ◌≢◌, ℕ, zero, suc, ◌+◌, ◌<◌, ◌≤◌, Bool, true, false, cond, eqb, leb, ◌&&◌, refl, sym, ap, ◌∙◌, subst, inl, inr, arith, Option, Some, None, length}
use Rattle.std.specs.Option.{unwrap_or, option_eq}
use Rattle.std.proofs.lemmas.Bool.{cases_eq, cases_order, and_parts, and_from, or_cases, or_left, or_right, eqb-true, eq-eqb, ne_eqb, leb-true, le-leb}
use Rattle.vpf_triplet.specs.declared.triplets.Triplet.{Triplet}
use Rattle.vpf_darts.specs.Darts.{tile_in, edge_in, flip}
use Rattle.vpf_prims.specs.Lists.{kth}
use Rattle.vpf_tiling.specs.Ranks.{rank}
use Rattle.vpf_prims.specs.Primitives.{Primitives, Library, EdgePrimitive, untiled, absent_edge, tile_edges, edge_count}
use Rattle.vpf_prims.specs.References.{id_of}
use Rattle.vpf_wing.specs.Links.{Beyond, DartLinks, link_of, is_minus, face_by, local_next, local_map}
use Rattle.vpf_follow.specs.Following.{same_beyond, face_beyond}
use Rattle.vpf_tiling.specs.Presence.{untiled_links, next_of, tail_of, head_of, face_of, holds_face, home, is_within, is_present, has_node, local_node, local_face}
use Rattle.vpf_tiling.specs.Tiles.{tiled_face}
use Rattle.vpf_prims.specs.Numbering.{IsFace, IsEdgeOf}
use Rattle.vpf_wing.specs.WellFormed.{IsWellFormed}
use Rattle.vpf_tiling.specs.Plans.{IsTileable}
use Rattle.vpf_wing.specs.Inner.DartLaws.{never_both, IsThere, has-there, darts-stand, flip-flip, flip-has}
use Rattle.vpf_tiling.specs.Inner.PresenceLaws.{InFaces, NextIs, any_from, holds_from, in_faces, in_zero, next_is, present_has}
use Rattle.vpf_tiling.specs.Inner.RankLaws.{rank_rises}

pub within_from : (c : Primitives) (plan : ℕ → ℕ) → IsWellFormed c → (t d : ℕ) → (untiled_links c).has d ≡ true → face_of c d ≢ 1 → plan (face_of c d) ≡ t
    → is_within c plan t d ≡ true
within_from c plan w t d h ne p =
    and_from ((untiled_links c).has d) (holds_face c plan t (face_of c d)) h (holds_from c plan t (face_of c d) (in_faces c w d h) ne p)

-- what it is to be within a tile
pub record Within (c : Primitives) (plan : ℕ → ℕ) (t d : ℕ) : Type 0 where
  pub other : face_of c d ≢ 1
  pub planned : plan (face_of c d) ≡ t

pub within_is : (c : Primitives) (plan : ℕ → ℕ) (t d : ℕ) → is_within c plan t d ≡ true → Within c plan t d
within_is c plan t d h = (
    let f : ℕ = face_of c d in
    let a = and_parts ((untiled_links c).has d) (holds_face c plan t f) h in
    let b = and_parts (leb 2 f && leb f (length c.faces)) (eqb (plan f) t) a.1 in
    let r = and_parts (leb 2 f) (leb f (length c.faces)) b.0 in
    let two : 2 ≤ f = leb-true 2 f r.0 in
    record { other = λ e. (omega arith); planned = eqb-true (plan f) t b.1 })

pub home_plain : (c : Primitives) (plan : ℕ → ℕ) (d : ℕ) → face_of c d ≢ 1 → home c plan d ≡ plan (face_of c d)
home_plain c plan d ne = ap (λ b. cond b (plan (face_of c (flip d))) (plan (face_of c d))) (ne_eqb (face_of c d) 1 ne)

pub home_universe : (c : Primitives) (plan : ℕ → ℕ) (d : ℕ) → face_of c d ≡ 1 → home c plan d ≡ plan (face_of c (flip d))
home_universe c plan d e = ap (λ b. cond b (plan (face_of c (flip d))) (plan (face_of c d))) (eq-eqb (face_of c d) 1 e)

-- a dart is present in its home
pub present_home : (c : Primitives) (plan : ℕ → ℕ) (tiles : ℕ) → IsTileable c plan tiles → (d : ℕ) → (untiled_links c).has d ≡ true
    → is_present c plan (home c plan d) d ≡ true
present_home c plan tiles w d h = elim (cases_eq (face_of c d) 1) [
  | inl e ↦
      or_right (is_within c plan (home c plan d) d) (is_within c plan (home c plan d) (flip d))
      (within_from c plan w.well_formed (home c plan d) (flip d) (flip-has (untiled c) d h) (w.places.edges d h e) (sym (home_universe c plan d e)))
  | inr ne ↦
      or_left (is_within c plan (home c plan d) d) (is_within c plan (home c plan d) (flip d))
      (within_from c plan w.well_formed (home c plan d) d h ne (sym (home_plain c plan d ne)))
]

-- a dart of a present edge has a face of the tile, one of another tile, or the universe
pub data Side (c : Primitives) (plan : ℕ → ℕ) (t d : ℕ) : Type 0 where
  inside : face_of c d ≢ 1 → plan (face_of c d) ≡ t → home c plan d ≡ t → Side c plan t d
  outside : face_of c d ≢ 1 → plan (face_of c d) ≢ t → home c plan d ≡ plan (face_of c d) → Side c plan t d
  universe : face_of c d ≡ 1 → home c plan d ≡ t → Side c plan t d

pub side : (c : Primitives) (plan : ℕ → ℕ) (t d : ℕ) → is_present c plan t d ≡ true → Side c plan t d
side c plan t d h = elim (cases_eq (face_of c d) 1) [
  | inl e ↦ (elim (or_cases (is_within c plan t d) (is_within c plan t (flip d)) h) [
    | inl a ↦ absurd ((within_is c plan t d a).other e)
    | inr b ↦ universe e (home_universe c plan d e ∙ (within_is c plan t (flip d) b).planned)
  ])
  | inr ne ↦ (elim (cases_eq (plan (face_of c d)) t) [
    | inl p ↦ inside ne p (home_plain c plan d ne ∙ p)
    | inr np ↦ outside ne np (home_plain c plan d ne)
  ])
]

pub rank_apart : (p : ℕ → Bool) (a b : ℕ) → p a ≡ true → p b ≡ true → rank p a ≡ rank p b → a ≡ b
rank_apart p a b ha hb e = elim (cases_order a b) [
  | inl same ↦ same
  | inr rest ↦ (elim rest [ inl lt ↦ absurd (later p a b ha e lt) | inr gt ↦ absurd (later p b a hb (sym e) gt) ])
]
  where
    later : (p : ℕ → Bool) (a b : ℕ) → p a ≡ true → rank p a ≡ rank p b → a < b → ⊥
    later p a zero ha e lt = omega arith
    later p a (suc b) ha e lt = (let r : rank p a < rank p (suc b) = rank_rises p a b ha (omega arith) in omega arith)

pub node_there : (c : Primitives) (plan : ℕ → ℕ) (t d : ℕ) → is_present c plan t d ≡ true → has_node c plan t (tail_of c d) ≡ true
node_there c plan t d h =
    any_from (λ x. is_present c plan t x && eqb (tail_of c x) (tail_of c d)) (untiled_links c).darts d (darts-stand (untiled c) d (present_has c plan t d h))
    (and_from (is_present c plan t d) (eqb (tail_of c d) (tail_of c d)) h (eq-eqb _ _ refl))

pub same_plus : (a b k : ℕ) → a + k ≡ b + k → a ≡ b
same_plus a b k e = omega arith

pub node_apart : (c : Primitives) (plan : ℕ → ℕ) (t d e : ℕ) → is_present c plan t d ≡ true → is_present c plan t e ≡ true
    → local_node c plan t (tail_of c d) ≡ local_node c plan t (tail_of c e) → tail_of c d ≡ tail_of c e
node_apart c plan t d e hd he same =
    rank_apart (has_node c plan t) (tail_of c d) (tail_of c e) (node_there c plan t d hd) (node_there c plan t e he) (same_plus _ _ 1 same)

-- the name of a face for all tiles
abbrev pub whole_name : Primitives → (ℕ → ℕ) → ℕ → Option Beyond
whole_name c plan f = cond (eqb f 1) None (Some (record { tile = plan f; id = local_face c plan (plan f) f }))

pub above : (r : ℕ) → r + 2 ≢ 1
above r e = omega arith

pub name_is : (c : Primitives) (plan : ℕ → ℕ) (t f : ℕ) → face_beyond t (link_of (tiled_face c plan t f)) ≡ whole_name c plan f
name_is c plan t f = elim (cases_eq f 1) [
  | inl e ↦ rw (eq-eqb f 1 e) refl
  | inr ne ↦ (elim (cases_eq (plan f) t) [
    | inl p ↦ rw (ne_eqb f 1 ne, eq-eqb (plan f) t p, ne_eqb (local_face c plan t f) 1 (above _)) (rw p refl)
    | inr np ↦ rw (ne_eqb f 1 ne, ne_eqb (plan f) t np) refl
  ])
]

pub same_beyond-refl : (p : Option Beyond) → option_eq same_beyond p p ≡ true
same_beyond-refl None = refl
same_beyond-refl (Some p) = rw (eq-eqb p.tile p.tile refl, eq-eqb p.id p.id refl) refl

-- two faces of the coverage with one name are one
pub names_apart : (c : Primitives) (plan : ℕ → ℕ) (f g : ℕ) → InFaces c f → InFaces c g
    → option_eq same_beyond (whole_name c plan f) (whole_name c plan g) ≡ true → f ≡ g
names_apart c plan f g jf jg h = elim (cases_eq f 1) [
  | inl ef ↦ (elim (cases_eq g 1) [
    | inl eg ↦ ef ∙ sym eg
    | inr ng ↦ absurd (never_both false (rw (eq-eqb f 1 ef, ne_eqb g 1 ng) at h) refl)
  ])
  | inr nf ↦ (elim (cases_eq g 1) [
    | inl eg ↦ absurd (never_both false (rw (ne_eqb f 1 nf, eq-eqb g 1 eg) at h) refl)
    | inr ng ↦ (
        let h' = rw (ne_eqb f 1 nf, ne_eqb g 1 ng) at h in
        let parts : (eqb (plan f) (plan g) ≡ true) × (eqb (local_face c plan (plan f) f) (local_face c plan (plan g) g) ≡ true) =
        and_parts (eqb (plan f) (plan g)) (eqb (local_face c plan (plan f) f) (local_face c plan (plan g) g)) h' in
        let p : plan f ≡ plan g = eqb-true (plan f) (plan g) parts.0 in
        let q : local_face c plan (plan f) f ≡ local_face c plan (plan g) g = eqb-true _ _ parts.1 in
        let q' : local_face c plan (plan f) f ≡ local_face c plan (plan f) g = q ∙ ap (λ z. local_face c plan z g) (sym p) in
        rank_apart (holds_face c plan (plan f)) f g (holds_from c plan (plan f) f jf nf refl) (holds_from c plan (plan f) g jg ng (sym p)) (same_plus _ _ 2 q'))
  ])
]
