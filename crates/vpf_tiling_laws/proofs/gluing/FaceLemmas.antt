-- The faces of the tiled library are those of the coverage, by their names.
use Rattle.std.proofs.Common.{[], ◌≡◌, ◌≢◌, ℕ, ◌<◌, ◌⊎◌, true, false, cond, eqb, refl, sym, ap, ◌∙◌, subst, inl, inr, arith, Some, None, List, ◌∷◌, ◌++◌, length, map, get_or}
use Rattle.std.specs.Prelude.{filter, flat_map}
use Rattle.std.proofs.lemmas.Bool.{cases_Bool, cases_eq, and_from, or_left, eqb-true, eq-eqb, ne_eqb}
use mathlib.Core.Path.{fun_ext}
use Rattle.vpf_darts.specs.Darts.{code, edge_in, sign_in, flip}
use Rattle.vpf_prims.specs.Lists.{kth}
use Rattle.vpf_prims.specs.Primitives.{Primitives, absent_face, absent_ring, faces_in, tile_faces, untiled}
use Rattle.vpf_prims.specs.References.{id_of}
use Rattle.vpf_wing.specs.Links.{DartLinks, link_of}
use Rattle.vpf_wing.specs.Inner.DartLaws.{code-sign, flip-edge, flip-flip, flip-has, never_both}
use Rattle.vpf_tiling.specs.Ranks.{numbered, numbered_from, up_to}
use Rattle.vpf_tiling.specs.Presence.{copy_in, dart_name, face_of, held_faces, holds_face, is_present, is_within, local_edge, local_face, untiled_links}
use Rattle.vpf_tiling.specs.Inner.PresenceLaws.{InFaces, dart_is, holds_from, in_faces, other-code, plus_or, present_flip}
use Rattle.vpf_tiling.specs.Plans.{IsTileable}
use Rattle.vpf_tiling.specs.Tiles.{face_rings, is_made, numbered_face, outer_rings, tiled_face, tiled_library, tiled_primitives, tiled_rings}
use Rattle.vpf_tiling_laws.proofs.tiled.CopyLemmas.{copies_have_links, made, tile_is}
use Rattle.vpf_tiling_laws.proofs.tiled.FollowLemmas.{library_links}
use Rattle.vpf_tiling_laws.proofs.tiled.ReferenceLemmas.{rings_are}
use Rattle.vpf_tiling_laws.proofs.tiled.SideLemmas.{home_plain, rank_apart, same_plus}
use Rattle.vpf_tiling_laws.proofs.tiled.TableLemmas.{HeldFace, SourceRing, held_is, source_ring}
use Rattle.vpf_tiling_laws.specs.Gluing.Whole.{WholeFace, ring_start_dart, named_face, rest_of, whole_face, whole_faces, whole_rings}
use Rattle.vpf_tiling_laws.specs.Inner.Gluing.Gluing.{FacesAreNamed}
use Rattle.vpf_tiling_laws.proofs.gluing.ListLemmas.{filter_empty, flat_one, map_rings, numbered_by_rank, numbered_twice, picked, picked_all, picked_append, picked_flat, picked_none, picked_rows}
use Rattle.vpf_tiling_laws.specs.Inner.Gluing.ListLaws.{map_twice}

-- a tile without tables has no face
pub none_held : (c : Primitives) (plan : ℕ → ℕ) (tiles t : ℕ) → IsTileable c plan tiles → is_made c plan tiles t ≡ false → (f : ℕ)
    → holds_face c plan t f ≡ false
none_held c plan tiles t w g f = elim (cases_Bool (holds_face c plan t f)) [
  | inr none ↦ none
  | inl h ↦ (
      let k : HeldFace c plan t f = held_is c plan t f h in
      let one = k.faces.from_one in
      let ne = k.other in
      let here : is_made c plan tiles t ≡ true =
      made c plan tiles t w.plans (record { face = f; from_two = omega arith; to_last = k.faces.to_last; planned = k.planned }) in
      absurd (never_both (is_made c plan tiles t) here g))
]

-- the face cell of a dart in a tile has the number of a face of the tile exactly where it is that face
face_test : (c : Primitives) (plan : ℕ → ℕ) (t f g : ℕ) → holds_face c plan t f ≡ true → InFaces c g
    → eqb (link_of (tiled_face c plan t g)).id (local_face c plan t f) ≡ eqb g f
face_test c plan t f g h i = (
    let k : HeldFace c plan t f = held_is c plan t f h in
    let p : plan f ≡ t = k.planned in
    elim (cases_eq g f) [
      | inl same ↦ (
          let ne : g ≢ 1 = λ e. k.other (sym same ∙ e) in
          let pg : plan g ≡ t = ap plan same ∙ p in
          rw (ne_eqb g 1 ne, eq-eqb (plan g) t pg) (eq-eqb (local_face c plan t g) (local_face c plan t f) (ap (local_face c plan t) same)
          ∙ sym (eq-eqb g f same)))
      | inr other ↦ (elim (cases_eq g 1) [
        | inl u ↦ rw (eq-eqb g 1 u) (ne_eqb 1 (local_face c plan t f) (λ q. (omega arith)) ∙ sym (ne_eqb g f other))
        | inr ne ↦ (elim (cases_eq (plan g) t) [
          | inl pg ↦
              rw (ne_eqb g 1 ne, eq-eqb (plan g) t pg) (ne_eqb (local_face c plan t g) (local_face c plan t f)
              (λ q. other (rank_apart (holds_face c plan t) g f (holds_from c plan t g i ne pg) h (same_plus _ _ 2 q)))
              ∙ sym (ne_eqb g f other))
          | inr away ↦ rw (ne_eqb g 1 ne, ne_eqb (plan g) t away) (ne_eqb 1 (local_face c plan t f) (λ q. (omega arith)) ∙ sym (ne_eqb g f other))
        ])
      ])
    ])

-- the dart of a ring's start edge in a tile
dart_at : (c : Primitives) (plan : ℕ → ℕ) (tiles t f e : ℕ) → IsTileable c plan tiles → holds_face c plan t f ≡ true
    → (untiled_links c).has (code 0 e 0) ≡ true → is_present c plan t (code 0 e 0) ≡ true → edge_in (code 0 e 0) ≡ e → edge_in (code 0 e 1) ≡ e
    → ring_start_dart (library_links c plan tiles) t (local_edge c plan t e) (local_face c plan t f)
    ≡ cond (eqb (face_of c (code 0 e 0)) f) (copy_in c plan t (code 0 e 0)) (copy_in c plan t (code 0 e 1))
dart_at c plan tiles t f e w h has p e0 e1 = (
    let C : DartLinks = library_links c plan tiles in
    let k : ℕ = local_edge c plan t e in
    let l : ℕ = local_face c plan t f in
    let a : code t k 0 ≡ copy_in c plan t (code 0 e 0) =
    ap (λ j. code t (local_edge c plan t j) 0) (sym e0) ∙ ap (code t (local_edge c plan t (edge_in (code 0 e 0)))) (sym (code-sign 0 e 0 (omega arith))) in
    let b : code t k 1 ≡ copy_in c plan t (code 0 e 1) =
    ap (λ j. code t (local_edge c plan t j) 1) (sym e1) ∙ ap (code t (local_edge c plan t (edge_in (code 0 e 1)))) (sym (code-sign 0 e 1 (omega arith))) in
    let face : (C.face (code t k 0)).id ≡ (link_of (tiled_face c plan t (face_of c (code 0 e 0)))).id =
    ap (λ x. (C.face x).id) a ∙ ap (λ q. q.id) (copies_have_links c plan tiles w t (code 0 e 0) p).face in
    let test : eqb (C.face (code t k 0)).id l ≡ eqb (face_of c (code 0 e 0)) f =
    ap (λ i. eqb i l) face ∙ face_test c plan t f (face_of c (code 0 e 0)) h (in_faces c w.well_formed (code 0 e 0) has) in
    ap (λ v. cond v (code t k 0) (code t k 1)) test
    ∙ ap (λ x. cond (eqb (face_of c (code 0 e 0)) f) x (code t k 1)) a
    ∙ ap (λ x. cond (eqb (face_of c (code 0 e 0)) f) (copy_in c plan t (code 0 e 0)) x) b)

-- a dart with a face of the tile is named by its copy there
name_at : (c : Primitives) (plan : ℕ → ℕ) (t f d : ℕ) → holds_face c plan t f ≡ true → face_of c d ≡ f → copy_in c plan t d ≡ dart_name c plan d
name_at c plan t f d h e = (
    let k : HeldFace c plan t f = held_is c plan t f h in
    let ne : face_of c d ≢ 1 = λ q. k.other (sym e ∙ q) in
    ap (λ s. copy_in c plan s d) (sym (home_plain c plan d ne ∙ ap plan e ∙ k.planned)))

-- the + dart of a dart's edge is that dart or the other one
record Sides (d a : ℕ) : Type 0 where
  which : (a ≡ d) ⊎ (a ≡ flip d)
  edge : edge_in a ≡ edge_in d

sides : (d a : ℕ) → (a ≡ d) ⊎ (a ≡ flip d) → Sides d a
sides d a h = record { which = h; edge = elim h [ inl q ↦ ap edge_in q | inr q ↦ ap edge_in q ∙ flip-edge d ] }

-- the dart of a ring in its face's tile is named by the dart of the ring
ring_dart : (c : Primitives) (plan : ℕ → ℕ) (tiles t f d : ℕ) → IsTileable c plan tiles → holds_face c plan t f ≡ true → (untiled_links c).has d ≡ true
    → face_of c d ≡ f
    → ring_start_dart (library_links c plan tiles) t (local_edge c plan t (edge_in d)) (local_face c plan t f)
    ≡ dart_name c plan (ring_start_dart (untiled_links c) 0 (edge_in d) f)
ring_dart c plan tiles t f d w h hd fd = (
    let e : ℕ = edge_in d in
    let a : ℕ = code 0 e 0 in
    let b : ℕ = code 0 e 1 in
    let is : code 0 e (sign_in d) ≡ d = dart_is c d hd in
    let within : is_within c plan t d ≡ true =
    and_from ((untiled_links c).has d) (holds_face c plan t (face_of c d)) hd (ap (holds_face c plan t) fd ∙ h) in
    let here : is_present c plan t d ≡ true = or_left (is_within c plan t d) (is_within c plan t (flip d)) within in
    let ba : flip a ≡ b = ap flip (sym (other-code e)) ∙ flip-flip b in
    let s : Sides d a = sides d a (plus_or d is) in
    let pa : is_present c plan t a ≡ true =
    elim s.which [ inl q ↦ ap (is_present c plan t) q ∙ here | inr q ↦ ap (is_present c plan t) q ∙ present_flip c plan t d here ] in
    let ha : (untiled_links c).has a ≡ true =
    elim s.which [ inl q ↦ ap (untiled_links c).has q ∙ hd | inr q ↦ ap (untiled_links c).has q ∙ flip-has (untiled c) d hd ] in
    let ea : edge_in a ≡ e = s.edge in
    let eb : edge_in b ≡ e = ap edge_in (sym ba) ∙ flip-edge a ∙ ea in
    dart_at c plan tiles t f e w h ha pa ea eb ∙ (elim (cases_Bool (eqb (face_of c a) f)) [
      | inl y ↦
          ap (λ v. cond v (copy_in c plan t a) (copy_in c plan t b)) y ∙ name_at c plan t f a h (eqb-true (face_of c a) f y)
          ∙ sym (ap (λ v. dart_name c plan (cond v a b)) y)
      | inr n ↦ (
          let bd : b ≡ d = elim s.which [
            | inl q ↦ absurd (never_both (eqb (face_of c a) f) (eq-eqb (face_of c a) f (ap (face_of c) q ∙ fd)) n)
            | inr q ↦ sym ba ∙ ap flip q ∙ flip-flip d
          ] in
          ap (λ v. cond v (copy_in c plan t a) (copy_in c plan t b)) n ∙ name_at c plan t f b h (ap (face_of c) bd ∙ fd)
          ∙ sym (ap (λ v. dart_name c plan (cond v a b)) n))
    ]))

-- the rings of a face in its tile are its rings, each by the name of its dart
rings_named : (c : Primitives) (plan : ℕ → ℕ) (tiles t f : ℕ) → IsTileable c plan tiles → is_made c plan tiles t ≡ true → holds_face c plan t f ≡ true
    → whole_rings (tiled_library c plan tiles) t (local_face c plan t f) ≡ map (dart_name c plan) (whole_rings (untiled c) 0 f)
rings_named c plan tiles t f w m h = (
    let l : ℕ = local_face c plan t f in
    let g : ℕ → ℕ = λ e. ring_start_dart (library_links c plan tiles) t e l in
    let k : HeldFace c plan t f = held_is c plan t f h in
    let outer : picked g l (outer_rings c plan t) ≡ [] = picked_none g l 1 _ (λ q. (omega arith)) _ in
    let own : picked g l (face_rings c plan t f)
    ≡ map (λ r. g (local_edge c plan t (id_of r.start_edge))) (filter (λ r. eqb (id_of r.face) f) c.rings) =
    picked_all g l (local_face c plan t f) (λ r. local_edge c plan t (id_of r.start_edge)) refl (filter (λ r. eqb (id_of r.face) f) c.rings) in
    ap (λ rows. map (λ r. g (id_of r.start_edge)) (filter (λ r. eqb (id_of r.face) l) rows)) (rings_are c plan tiles t m)
    ∙ picked_rows g l 1 (tiled_rings c plan t)
    ∙ picked_append g l (outer_rings c plan t) (flat_map (face_rings c plan t) (held_faces c plan t))
    ∙ ap (λ v. v ++ picked g l (flat_map (face_rings c plan t) (held_faces c plan t))) outer
    ∙ picked_flat g l (face_rings c plan t) (held_faces c plan t)
    ∙ flat_one (λ x. picked g l (face_rings c plan t x)) (holds_face c plan t) f
    (λ x hx ne. picked_none g l (local_face c plan t x) _ (λ q. ne (rank_apart (holds_face c plan t) x f hx h (same_plus _ _ 2 q))) _)
    h k.faces.from_one (length c.faces) k.faces.to_last
    ∙ own
    ∙ map_rings (λ r. g (local_edge c plan t (id_of r.start_edge))) (λ r. dart_name c plan (ring_start_dart (untiled_links c) 0 (id_of r.start_edge) f))
    (λ r. eqb (id_of r.face) f) absent_ring c.rings same
    ∙ sym (map_twice (dart_name c plan) (λ r. ring_start_dart (untiled_links c) 0 (id_of r.start_edge) f) (filter (λ r. eqb (id_of r.face) f) c.rings)))
  where
    same : (j : ℕ) → j < length c.rings → eqb (id_of (get_or c.rings j absent_ring).face) f ≡ true
        → ring_start_dart (library_links c plan tiles) t (local_edge c plan t (id_of (get_or c.rings j absent_ring).start_edge)) (local_face c plan t f)
        ≡ dart_name c plan (ring_start_dart (untiled_links c) 0 (id_of (get_or c.rings j absent_ring).start_edge) f)
    same j lt q = (
        let s : SourceRing c (get_or c.rings j absent_ring) = source_ring c w.well_formed j lt in
        let face : face_of c s.dart ≡ f = s.face ∙ eqb-true (id_of (get_or c.rings j absent_ring).face) f q in
        subst (λ e.
        ring_start_dart (library_links c plan tiles) t (local_edge c plan t e) (local_face c plan t f)
        ≡ dart_name c plan (ring_start_dart (untiled_links c) 0 e f))
        s.edge (ring_dart c plan tiles t f s.dart w h s.has face))

faces_are : (c : Primitives) (plan : ℕ → ℕ) (tiles t : ℕ) → is_made c plan tiles t ≡ true
    → tile_faces (tiled_library c plan tiles) t ≡ numbered (numbered_face c (tiled_rings c plan t)) (1 ∷ held_faces c plan t)
faces_are c plan tiles t h = ap faces_in (tile_is c plan tiles t h)

-- the faces of a tile, and so those of all tiles
tile_faces_named : (c : Primitives) (plan : ℕ → ℕ) (tiles : ℕ) → IsTileable c plan tiles → (t : ℕ)
    → whole_faces (tiled_library c plan tiles) t ≡ map (named_face c plan) (held_faces c plan t)
tile_faces_named c plan tiles w t = elim (cases_Bool (is_made c plan tiles t)) [
  | inr g ↦
      ap (λ b. numbered_from 2 (whole_face (tiled_library c plan tiles) t) (rest_of (faces_in (cond b (Some (tiled_primitives c plan t)) None)))) g
      ∙ sym (ap (map (named_face c plan)) (filter_empty (holds_face c plan t) (none_held c plan tiles t w g) (up_to (length c.faces))))
  | inl m ↦
      ap (λ rows. numbered_from 2 (whole_face (tiled_library c plan tiles) t) (rest_of rows)) (faces_are c plan tiles t m)
      ∙ numbered_twice (whole_face (tiled_library c plan tiles) t) (numbered_face c (tiled_rings c plan t)) 2 (held_faces c plan t)
      ∙ numbered_by_rank (λ k f. whole_face (tiled_library c plan tiles) t k (numbered_face c (tiled_rings c plan t) k f)) (named_face c plan)
      (holds_face c plan t) 2 refl (λ f h.
      ap (λ rings. record { at = record { tile = t; id = local_face c plan t f }; carried = (kth c.faces f absent_face).carried; rings = rings })
      (rings_named c plan tiles t f w m h)
      ∙ ap (λ s. record {
        at = record { tile = s; id = local_face c plan s f };
        carried = (kth c.faces f absent_face).carried;
        rings = map (dart_name c plan) (whole_rings (untiled c) 0 f);
      }) (sym (held_is c plan t f h).planned)) (length c.faces)
]

pub faces_are_named : FacesAreNamed
faces_are_named c plan tiles w = ap (λ (g : ℕ → List WholeFace). flat_map g (up_to tiles)) (fun_ext (tile_faces_named c plan tiles w))
