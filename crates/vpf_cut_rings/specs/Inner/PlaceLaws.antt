-- The rings of a face by their places among the rings of the coverage.
use Rattle.std.proofs.Common.{[], ◌≡◌, ◌≢◌, ℕ, zero, suc, ◌+◌, ◌<◌, ◌≤◌, Bool, true, false, not, eqb, ◌&&◌, refl, sym, ap, ◌∙◌, inl, inr, arith, List, ◌∷◌, ◌++◌, append_assoc, length, map, get_or, take}
use Rattle.std.proofs.Math.ListN.{get_or-map}
use Rattle.std.proofs.lemmas.Bool.{cases_Bool, eqb-true, ne_eqb, or_cases}
use Rattle.std.specs.List.{range_with_len}
use Rattle.std.proofs.lemmas.List.{map-append, take_more}
use Rattle.std.specs.Prelude.{filter}
use Rattle.vpf_cutting.specs.Inner.Copies.Placing.{is_at}
use Rattle.vpf_cutting.specs.Inner.Copies.Presence.{Presence, has, items_in}
use Rattle.vpf_prims.specs.Lists.{kth}
use Rattle.vpf_prims.specs.Numbering.{IsRowOf}
use Rattle.vpf_prims.specs.Primitives.{Primitives, RingPrimitive, absent_ring}
use Rattle.vpf_prims.specs.References.{id_of}
use Rattle.vpf_tiling.specs.Ranks.{up_to}
use Rattle.vpf_wing.specs.Inner.DartLaws.{never_both, stands_in}
use Rattle.vpf_cut_rings.specs.Inner.Rings.{KeepsRings, ring_faces}
use Rattle.vpf_cut_rings.specs.Inner.OrderLaws.{kept_stands}
use Rattle.vpf_wing.specs.Inner.Kept.PlaceLaws.{stands_at}

next_range : (a n : ℕ) → range_with_len (a + 1) n ≡ map suc (range_with_len a n)
next_range a zero = refl
next_range a (suc n) =
    ap (λ k. k ∷ range_with_len ((a + 1) + 1) n) (let e : a + 1 ≡ suc a = omega arith in e) ∙ ap (λ ks. suc a ∷ ks) (next_range (a + 1) n)

kept_after : {X : Type 0} → (f : X → X) (p : X → Bool) (xs : List X) → filter p (map f xs) ≡ map f (filter (λ x. p (f x)) xs)
kept_after f p [] = refl
kept_after f p (x ∷ xs) = elim (cases_Bool (p (f x))) [
  | inl t ↦ rw t (ap (λ ys. f x ∷ ys) (kept_after f p xs))
  | inr n ↦ rw n (kept_after f p xs)
]

map_after : {X Y : Type 0} → (f : X → X) (g : X → Y) (xs : List X) → map g (map f xs) ≡ map (λ x. g (f x)) xs
map_after f g [] = refl
map_after f g (x ∷ xs) = ap (λ ys. g (f x) ∷ ys) (map_after f g xs)

places_after : {Y : Type 0} → (q : ℕ → Bool) (g : ℕ → Y) (a n : ℕ)
    → map g (filter q (range_with_len (a + 1) n)) ≡ map (λ k. g (suc k)) (filter (λ k. q (suc k)) (range_with_len a n))
places_after q g a n =
    ap (λ ks. map g (filter q ks)) (next_range a n) ∙ ap (map g) (kept_after suc q (range_with_len a n))
    ∙ map_after suc g (filter (λ k. q (suc k)) (range_with_len a n))

kept_from_zero : {X Y : Type 0} → (g : X → Y) (p : X → Bool) (xs : List X) (d : X)
    → map g (filter p xs) ≡ map (λ k. g (get_or xs k d)) (filter (λ k. p (get_or xs k d)) (range_with_len 0 (length xs)))
kept_from_zero g p [] d = refl
kept_from_zero g p (x ∷ xs) d = (
    let rest : map (λ k. g (get_or (x ∷ xs) k d)) (filter (λ k. p (get_or (x ∷ xs) k d)) (range_with_len (0 + 1) (length xs))) ≡ map g (filter p xs) =
    places_after (λ k. p (get_or (x ∷ xs) k d)) (λ k. g (get_or (x ∷ xs) k d)) 0 (length xs) ∙ sym (kept_from_zero g p xs d) in
    elim (cases_Bool (p x)) [
      | inl t ↦ rw t (ap (λ ys. g x ∷ ys) (sym rest))
      | inr n ↦ rw n (sym rest)
    ])

-- what is made of those that pass is made of what stands at the numbers, from 1, of those that pass
pub kept_by_number : {X Y : Type 0} → (g : X → Y) (p : X → Bool) (xs : List X) (d : X)
    → map g (filter p xs) ≡ map (λ k. g (kth xs k d)) (filter (λ k. p (kth xs k d)) (up_to (length xs)))
kept_by_number g p xs d =
    kept_from_zero g p xs d ∙ sym (places_after (λ k. p (kth xs k d)) (λ k. g (kth xs k d)) 0 (length xs))

same_kept : {X : Type 0} → (p q : X → Bool) → ((x : X) → p x ≡ q x) → (xs : List X) → filter p xs ≡ filter q xs
same_kept p q h [] = refl
same_kept p q h (x ∷ xs) = elim (cases_Bool (q x)) [
  | inl t ↦ rw (h x ∙ t, t) (ap (λ ys. x ∷ ys) (same_kept p q h xs))
  | inr n ↦ rw (h x ∙ n, n) (same_kept p q h xs)
]

pub face_placed : (c : Primitives) (k : ℕ) → kth (ring_faces c) k 0 ≡ id_of (kth c.rings k absent_ring).face
face_placed c k = get_or-map (λ (r : RingPrimitive). id_of r.face) (absent_ring ∷ c.rings) k absent_ring

at_is : (c : Primitives) (f : ℕ) → f ≢ 0 → (k : ℕ) → is_at (ring_faces c) f k ≡ eqb (id_of (kth c.rings k absent_ring).face) f
at_is c f ne k = ap (λ b. not b && eqb (kth (ring_faces c) k 0) f) (ne_eqb f 0 ne) ∙ ap (λ v. eqb v f) (face_placed c k)

-- what is made of the rings of a face is made of those that are kept for it
pub kept_of_face : {Y : Type 0} → (c : Primitives) (rings : Presence) → KeepsRings c rings → (f : ℕ) → f ≢ 0 → (g : RingPrimitive → Y)
    → map g (filter (λ r. eqb (id_of r.face) f) c.rings) ≡ map (λ k. g (kth c.rings k absent_ring)) (items_in rings f)
kept_of_face c rings k f ne g =
    kept_by_number g (λ r. eqb (id_of r.face) f) c.rings absent_ring
    ∙ ap (map (λ j. g (kth c.rings j absent_ring))) (sym (ap (λ n. filter (has rings f) (up_to n)) k.count
    ∙ ap (λ (test : ℕ → ℕ → Bool). filter (test f) (up_to (length c.rings))) k.tests
    ∙ same_kept (is_at (ring_faces c) f) (λ j. eqb (id_of (kth c.rings j absent_ring).face) f) (at_is c f ne) (up_to (length c.rings))))

in_range : (a n k : ℕ) → stands_in k (range_with_len a n) ≡ true → (a ≤ k) × (k < a + n)
in_range a zero k s = absurd (never_both false s refl)
in_range a (suc n) k s = elim (or_cases (eqb k a) (stands_in k (range_with_len (a + 1) n)) s) [
  | inl e ↦ (let same : k ≡ a = eqb-true k a e in (omega arith, omega arith))
  | inr r ↦ (let q = in_range (a + 1) n k r in let low : a + 1 ≤ k = q.0 in let high : k < (a + 1) + n = q.1 in (omega arith, omega arith))
]

-- a ring of a face
pub record IsRingOfFace (c : Primitives) (f k : ℕ) : Type 0 where
  pub row : IsRowOf (length c.rings) k
  pub face : id_of (kth c.rings k absent_ring).face ≡ f

pub kept_at : (c : Primitives) (rings : Presence) → KeepsRings c rings → (f : ℕ) → f ≢ 0 → (i : ℕ) → i < length (items_in rings f)
    → IsRingOfFace c f (get_or (items_in rings f) i 0)
kept_at c rings k f ne i lt =
    let r : ℕ = get_or (items_in rings f) i 0 in
    let q = kept_stands (has rings f) r (range_with_len 1 rings.items) (stands_at (items_in rings f) i lt) in
    let b = in_range 1 rings.items r q.1 in
    let low : 1 ≤ r = b.0 in
    let high : r < 1 + rings.items = b.1 in
    let count : rings.items ≡ length c.rings = k.count in
    record {
      row = (low, omega arith);
      face = eqb-true (id_of (kth c.rings r absent_ring).face) f (sym (at_is c f ne r) ∙ sym (ap (λ (test : ℕ → ℕ → Bool). test f r) k.tests) ∙ q.0);
    }

-- what is made of one more
pub made_more : {X R : Type 0} → (g : ℕ → R) (f : X → R) (ks : List ℕ) (i : ℕ) → i < length ks → (old : List R) (before after : List X) (x : X)
    → after ≡ before ++ x ∷ [] → f x ≡ g (get_or ks i 0) → map f before ≡ old ++ map g (take i ks) → map f after ≡ old ++ map g (take (i + 1) ks)
made_more g f ks i h old before after x a e was =
    ap (map f) a ∙ map-append f before (x ∷ []) ∙ ap (λ v. v ++ f x ∷ []) was ∙ append_assoc old (map g (take i ks)) (f x ∷ [])
    ∙ ap (λ v. old ++ (map g (take i ks) ++ v ∷ [])) e
    ∙ sym (ap (λ v. old ++ map g v) (take_more ks i 0 h) ∙ ap (λ v. old ++ v) (map-append g (take i ks) (get_or ks i 0 ∷ [])))
