-- How many rings a tile has at most.
use Rattle.std.proofs.Common.{[], ◌≡◌, ℕ, zero, suc, ◌+◌, ◌*◌, ◌<◌, ◌≤◌, Bool, false, eqb, not, ◌&&◌, refl, sym, ap, ◌∙◌, inl, inr, arith, List, ◌∷◌, length, length-append, map}
use Rattle.std.specs.Prelude.{filter, flat_map}
use Rattle.std.proofs.lemmas.Bool.{cases_Bool, eq-eqb, eqb-true}
use Rattle.std.proofs.lemmas.List.{length-map}
use Rattle.vpf_darts.specs.Cycles.{count_of}
use Rattle.vpf_prims.specs.Primitives.{Primitives, RingPrimitive}
use Rattle.vpf_prims.specs.References.{id_of}
use Rattle.vpf_tiling.specs.Presence.{held_faces, holds_face, is_present, is_within, local_edge, local_face, tile_map}
use Rattle.vpf_tiling.specs.Ranks.{is_least, up_to}
use Rattle.vpf_tiling.specs.Tiles.{Ring, face_rings, outer_darts, outer_rings, tiled_rings}
use Rattle.vpf_wing.specs.Inner.DartLaws.{never_both}
use Rattle.vpf_wing.specs.Links.{row_darts}
use Rattle.vpf_cut_rings.specs.Inner.Rings.{outer_ring}
use Rattle.vpf_cut_rings.specs.Inner.LeastLaws.{counts_stands}
use Rattle.vpf_cut_rings.proofs.OrderLemmas.{kept_rise, range_rises}
use Rattle.vpf_cut_rings.specs.Inner.OrderLaws.{RisesStrictly as Rises, each_of_all as all_at}
use Rattle.vpf_base.proofs.Booleans.{one_if}

fewer_kept : {X : Type 0} → (p : X → Bool) (xs : List X) → length (filter p xs) ≤ length xs
fewer_kept p [] = omega arith
fewer_kept p (x ∷ xs) = (
    let less : length (filter p xs) ≤ length xs = fewer_kept p xs in
    elim (cases_Bool (p x)) [ inl t ↦ rw t (omega arith) | inr f ↦ rw f (omega arith) ])

row_length : (n : ℕ) → length (row_darts 0 n) ≡ 2 * n
row_length zero = refl
row_length (suc n) =
    let less : length (row_darts 0 n) ≡ 2 * n = row_length n in
    let all : length (row_darts 0 (suc n)) ≡ length (row_darts 0 n) + 2 = length-append (row_darts 0 n) _ in
    omega arith

outer_few : (c : Primitives) (plan : ℕ → ℕ) (t : ℕ) → length (outer_rings c plan t) ≤ 2 * length c.edges
outer_few c plan t =
    let darts : List ℕ = outer_darts c plan t in
    let made : length (outer_rings c plan t) ≡ length (filter (is_least (tile_map c plan t).next (length darts)) darts) =
    length-map (filter (is_least (tile_map c plan t).next (length darts)) darts) (outer_ring c plan t) in
    let least : length (filter (is_least (tile_map c plan t).next (length darts)) darts) ≤ length darts =
    fewer_kept (is_least (tile_map c plan t).next (length darts)) darts in
    let outer : length darts ≤ length (row_darts 0 (length c.edges)) =
    fewer_kept (λ d. is_present c plan t d && not (is_within c plan t d)) (row_darts 0 (length c.edges)) in
    let all : length (row_darts 0 (length c.edges)) ≡ 2 * length c.edges = row_length (length c.edges) in
    omega arith

-- in a list that rises no number stands twice
once_at_most : (x : ℕ) (xs : List ℕ) → Rises xs → count_of x xs ≤ 1
once_at_most x [] r = omega arith
once_at_most x (y ∷ ys) r = elim (cases_Bool (eqb y x)) [
  | inl e ↦ (
      let none : count_of x ys ≡ 0 = elim (cases_Bool (eqb (count_of x ys) 0)) [
        | inl z ↦ eqb-true (count_of x ys) 0 z
        | inr n ↦ (
            let some : 1 ≤ count_of x ys = not_zero (count_of x ys) n in
            let above : y < x = all_at (λ z. y < z) x ys r.0 (counts_stands x ys some) in
            let same : y ≡ x = eqb-true y x e in
            absurd (omega arith))
      ] in
      rw e (omega arith))
  | inr f ↦ (let rest : count_of x ys ≤ 1 = once_at_most x ys r.1 in rw f (omega arith))
]
  where
    not_zero : (k : ℕ) → eqb k 0 ≡ false → 1 ≤ k
    not_zero zero n = absurd (never_both (eqb 0 0) refl n)
    not_zero (suc k) n = omega arith

-- all that a test of a number and an item passes, number by number
total : {X : Type 0} → (X → ℕ) → List ℕ → List X → ℕ
total g fs xs = length (flat_map (λ f. filter (λ x. eqb (g x) f) xs) fs)

none_at_all : {X : Type 0} → (g : X → ℕ) (fs : List ℕ) → total g fs [] ≡ 0
unfolding total
none_at_all g [] = refl
none_at_all g (f ∷ fs) = none_at_all g fs

one_more_at : {X : Type 0} → (g : X → ℕ) (fs : List ℕ) (x : X) (xs : List X) → total g fs (x ∷ xs) ≡ count_of (g x) fs + total g fs xs
unfolding total
one_more_at g [] x xs = refl
one_more_at g (f ∷ fs) x xs =
    let here : length (filter (λ y. eqb (g y) f) (x ∷ xs)) ≡ one_if (eqb f (g x)) + length (filter (λ y. eqb (g y) f) xs) = this_one f in
    let rest : length (flat_map (λ h. filter (λ y. eqb (g y) h) (x ∷ xs)) fs) ≡ count_of (g x) fs + length (flat_map (λ h. filter (λ y. eqb (g y) h) xs) fs) =
    one_more_at g fs x xs in
    let left : length (flat_map (λ h. filter (λ y. eqb (g y) h) (x ∷ xs)) (f ∷ fs))
    ≡ length (filter (λ y. eqb (g y) f) (x ∷ xs)) + length (flat_map (λ h. filter (λ y. eqb (g y) h) (x ∷ xs)) fs) =
    length-append (filter (λ y. eqb (g y) f) (x ∷ xs)) (flat_map (λ h. filter (λ y. eqb (g y) h) (x ∷ xs)) fs) in
    let right : length (flat_map (λ h. filter (λ y. eqb (g y) h) xs) (f ∷ fs))
    ≡ length (filter (λ y. eqb (g y) f) xs) + length (flat_map (λ h. filter (λ y. eqb (g y) h) xs) fs) =
    length-append (filter (λ y. eqb (g y) f) xs) (flat_map (λ h. filter (λ y. eqb (g y) h) xs) fs) in
    added _ _ _ _ _ _ _ _ left right here rest
  where
    added : (l a b r c d one n : ℕ) → l ≡ a + b → r ≡ c + d → a ≡ one + c → b ≡ n + d → l ≡ (one + n) + r
    added l a b r c d one n p q h k = omega arith

    this_one : (f : ℕ) → length (filter (λ y. eqb (g y) f) (x ∷ xs)) ≡ one_if (eqb f (g x)) + length (filter (λ y. eqb (g y) f) xs)
    this_one f = elim (cases_Bool (eqb (g x) f)) [
      | inl e ↦ rw (e, eq-eqb f (g x) (sym (eqb-true (g x) f e))) (omega arith)
      | inr n ↦ rw (n, turned n) (omega arith)
    ]
      where
        turned : eqb (g x) f ≡ false → eqb f (g x) ≡ false
        turned n = elim (cases_Bool (eqb f (g x))) [
          | inl e ↦ absurd (never_both (eqb (g x) f) (eq-eqb (g x) f (sym (eqb-true f (g x) e))) n)
          | inr m ↦ m
        ]

-- each item passes at one number at most
few_in_total : {X : Type 0} → (g : X → ℕ) (fs : List ℕ) → Rises fs → (xs : List X) → total g fs xs ≤ length xs
few_in_total g fs r [] = let none : total g fs [] ≡ 0 = none_at_all g fs in omega arith
few_in_total g fs r (x ∷ xs) =
    let more : total g fs (x ∷ xs) ≡ count_of (g x) fs + total g fs xs = one_more_at g fs x xs in
    let once : count_of (g x) fs ≤ 1 = once_at_most (g x) fs r in
    let less : total g fs xs ≤ length xs = few_in_total g fs r xs in
    omega arith

same_length : {X Y : Type 0} → (f : ℕ → X → Y) (h : ℕ → List X) (fs : List ℕ) → length (flat_map (λ k. map (f k) (h k)) fs) ≡ length (flat_map h fs)
same_length f h [] = refl
same_length f h (k ∷ ks) =
    length-append (map (f k) (h k)) (flat_map (λ j. map (f j) (h j)) ks) ∙ ap (λ n. n + length (flat_map (λ j. map (f j) (h j)) ks)) (length-map (h k) (f k))
    ∙ ap (λ n. length (h k) + n) (same_length f h ks) ∙ sym (length-append (h k) (flat_map h ks))

held_few : (c : Primitives) (plan : ℕ → ℕ) (t : ℕ) → length (flat_map (face_rings c plan t) (held_faces c plan t)) ≤ length c.rings
unfolding total
held_few c plan t =
    let ring : ℕ → RingPrimitive → Ring = λ f r. record { face = local_face c plan t f; edge = local_edge c plan t (id_of r.start_edge) } in
    let same : length (flat_map (face_rings c plan t) (held_faces c plan t)) ≡ total (λ (r : RingPrimitive). id_of r.face) (held_faces c plan t) c.rings =
    same_length ring (λ f. filter (λ r. eqb (id_of r.face) f) c.rings) (held_faces c plan t) in
    let few : total (λ (r : RingPrimitive). id_of r.face) (held_faces c plan t) c.rings ≤ length c.rings =
    few_in_total (λ (r : RingPrimitive). id_of r.face) (held_faces c plan t) (kept_rise (holds_face c plan t) (up_to (length c.faces)) (range_rises 1 (length c.faces))) c.rings in
    omega arith

-- a tile has no more rings than the coverage has darts and rings
pub rings_few : (c : Primitives) (plan : ℕ → ℕ) (t : ℕ) → length (tiled_rings c plan t) ≤ 2 * length c.edges + length c.rings
rings_few c plan t =
    let all : length (tiled_rings c plan t) ≡ length (outer_rings c plan t) + length (flat_map (face_rings c plan t) (held_faces c plan t)) =
    length-append (outer_rings c plan t) (flat_map (face_rings c plan t) (held_faces c plan t)) in
    let outer : length (outer_rings c plan t) ≤ 2 * length c.edges = outer_few c plan t in
    let inner : length (flat_map (face_rings c plan t) (held_faces c plan t)) ≤ length c.rings = held_few c plan t in
    omega arith
