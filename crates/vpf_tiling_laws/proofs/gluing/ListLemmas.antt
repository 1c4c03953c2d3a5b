-- Lists of rows: what is made of rows by their ranks, and of the rows that pass a test.
use Rattle.std.proofs.Common.{[], ◌≡◌, ◌≢◌, ℕ, zero, suc, ◌+◌, ◌<◌, ◌≤◌, Bool, true, false, eqb, refl, sym, ap, ◌∙◌, inl, inr, arith, List, ◌∷◌, ◌++◌, length, map, get_or, append-nil}
use Rattle.std.specs.Prelude.{filter, flat_map}
use Rattle.std.specs.List.{list_any}
use Rattle.std.proofs.lemmas.Bool.{cases_Bool, cases_eq, or_from, eq-eqb, ne_eqb}
use Rattle.std.proofs.lemmas.Grind.{flat_map-append}
use Rattle.std.proofs.lemmas.List.{map-append}
use Rattle.std.proofs.lemmas.List.Elements.{filter-append}
use Rattle.vpf_prims.specs.References.{id_of}
use Rattle.vpf_prims.specs.Primitives.{RingPrimitive}
use Rattle.vpf_tiling.specs.Ranks.{up_to, rank, numbered_from}
use Rattle.vpf_tiling.specs.Tiles.{Ring, numbered_ring}
use Rattle.vpf_tiling.specs.Inner.RankLaws.{count_is, filter_none, filter_one, numbered_append, up-last}

-- two functions that are the same where a test passes
pub map_passing : {R : Type 0} → (u v : ℕ → R) (p : ℕ → Bool) → ((x : ℕ) → p x ≡ true → u x ≡ v x) → (xs : List ℕ)
    → map u (filter p xs) ≡ map v (filter p xs)
map_passing u v p h [] = refl
map_passing u v p h (x ∷ xs) = elim (cases_Bool (p x)) [
  | inl t ↦ rw t (ap (λ z. z ∷ map u (filter p xs)) (h x t) ∙ ap (λ z. v x ∷ z) (map_passing u v p h xs))
  | inr f ↦ rw f (map_passing u v p h xs)
]

-- where none passes
pub filter_empty : (p : ℕ → Bool) → ((x : ℕ) → p x ≡ false) → (xs : List ℕ) → filter p xs ≡ []
filter_empty p h [] = refl
filter_empty p h (x ∷ xs) = rw (h x) (filter_empty p h xs)

pub none_passes : (p : ℕ → Bool) → ((x : ℕ) → p x ≡ false) → (xs : List ℕ) → list_any p xs ≡ false
none_passes p h [] = refl
none_passes p h (x ∷ xs) = or_from (p x) (list_any p xs) (h x) (none_passes p h xs)

-- rows of rows have the same numbers
pub numbered_twice : {X R S : Type 0} → (f : ℕ → R → S) (g : ℕ → X → R) (k : ℕ) → (xs : List X)
    → numbered_from k f (numbered_from k g xs) ≡ numbered_from k (λ j x. f j (g j x)) xs
numbered_twice f g k [] = refl
numbered_twice f g k (x ∷ xs) = ap (λ z. f k (g k x) ∷ z) (numbered_twice f g (suc k) xs)

-- what forgets the number of a row
pub map_numbered : {X R S : Type 0} → (m : R → S) (row : ℕ → X → R) (g : X → S) → ((k : ℕ) (x : X) → m (row k x) ≡ g x) → (k : ℕ) (xs : List X)
    → map m (numbered_from k row xs) ≡ map g xs
map_numbered m row g h k [] = refl
map_numbered m row g h k (x ∷ xs) = ap (λ z. z ∷ map m (numbered_from (suc k) row xs)) (h k x) ∙ ap (λ z. g x ∷ z) (map_numbered m row g h (suc k) xs)

-- those to a number and the next are those to it, and then the next if it passes
filter_last : (p : ℕ → Bool) (n : ℕ) → filter p (up_to (suc n)) ≡ filter p (up_to n) ++ filter p (suc n ∷ [])
filter_last p n = ap (filter p) (up-last n) ∙ filter-append p (up_to n) (suc n ∷ [])

-- in rows by rank, the number of a row is the rank of its item
pub numbered_by_rank : {R : Type 0} → (row : ℕ → ℕ → R) (g : ℕ → R) (p : ℕ → Bool) (k : ℕ) → p 0 ≡ false
    → ((x : ℕ) → p x ≡ true → row (rank p x + k) x ≡ g x) → (n : ℕ) → numbered_from k row (filter p (up_to n)) ≡ map g (filter p (up_to n))
numbered_by_rank row g p k z h zero = refl
numbered_by_rank row g p k z h (suc n) = (
    let a : List ℕ = filter p (up_to n) in
    let split : filter p (up_to (suc n)) ≡ a ++ filter p (suc n ∷ []) = filter_last p n in
    let many : length a ≡ rank p (suc n) = count_is p z n in
    ap (numbered_from k row) split
    ∙ numbered_append row k a (filter p (suc n ∷ []))
    ∙ ap (λ v. v ++ numbered_from (length a + k) row (filter p (suc n ∷ []))) (numbered_by_rank row g p k z h n)
    ∙ ap (λ v. map g a ++ v) (elim (cases_Bool (p (suc n))) [
      | inl t ↦
          ap (numbered_from (length a + k) row) (filter_one p (suc n) t) ∙ ap (λ j. row (j + k) (suc n) ∷ []) many ∙ ap (λ v. v ∷ []) (h (suc n) t)
          ∙ sym (ap (map g) (filter_one p (suc n) t))
      | inr f ↦ ap (numbered_from (length a + k) row) (filter_none p (suc n) f) ∙ sym (ap (map g) (filter_none p (suc n) f))
    ])
    ∙ sym (map-append g a (filter p (suc n ∷ [])))
    ∙ sym (ap (map g) split))

-- of lists that are empty but for one item, the joined list is that item's
flat_none : {A : Type 0} → (f : ℕ → List A) (p : ℕ → Bool) (e : ℕ) → ((x : ℕ) → p x ≡ true → x ≢ e → f x ≡ []) → (n : ℕ) → n < e
    → flat_map f (filter p (up_to n)) ≡ []
flat_none f p e h zero lt = refl
flat_none f p e h (suc n) lt = (
    ap (flat_map f) (filter_last p n) ∙ flat_map-append f (filter p (up_to n)) (filter p (suc n ∷ []))
    ∙ ap (λ v. v ++ flat_map f (filter p (suc n ∷ []))) (flat_none f p e h n (omega arith)) ∙ (elim (cases_Bool (p (suc n))) [
      | inl t ↦ ap (flat_map f) (filter_one p (suc n) t) ∙ append-nil (f (suc n)) ∙ h (suc n) t (λ q. (omega arith))
      | inr g ↦ ap (flat_map f) (filter_none p (suc n) g)
    ]))

pub flat_one : {A : Type 0} → (f : ℕ → List A) (p : ℕ → Bool) (e : ℕ) → ((x : ℕ) → p x ≡ true → x ≢ e → f x ≡ []) → p e ≡ true → 1 ≤ e → (n : ℕ)
    → e ≤ n → flat_map f (filter p (up_to n)) ≡ f e
flat_one f p e h t one zero le = absurd (omega arith)
flat_one f p e h t one (suc n) le = (
    ap (flat_map f) (filter_last p n) ∙ flat_map-append f (filter p (up_to n)) (filter p (suc n ∷ [])) ∙ (elim (cases_eq e (suc n)) [
      | inl same ↦ (
          let here : p (suc n) ≡ true = ap p (sym same) ∙ t in
          ap (λ v. v ++ flat_map f (filter p (suc n ∷ []))) (flat_none f p e h n (omega arith)) ∙ ap (flat_map f) (filter_one p (suc n) here)
          ∙ append-nil (f (suc n)) ∙ ap f (sym same))
      | inr ne ↦
          ap (λ v. v ++ flat_map f (filter p (suc n ∷ []))) (flat_one f p e h t one n (omega arith))
          ∙ ap (λ v. f e ++ v) (elim (cases_Bool (p (suc n))) [
            | inl u ↦ ap (flat_map f) (filter_one p (suc n) u) ∙ append-nil (f (suc n)) ∙ h (suc n) u (λ q. ne (sym q))
            | inr g ↦ ap (flat_map f) (filter_none p (suc n) g)
          ])
          ∙ append-nil (f e)
    ]))

-- what is made of the edges of the rings of a face
abbrev pub picked : (ℕ → ℕ) → ℕ → List Ring → List ℕ
picked h k rings = map (λ r. h r.edge) (filter (λ r. eqb r.face k) rings)

pub picked_rows : (h : ℕ → ℕ) (k j : ℕ) (rings : List Ring)
    → map (λ r. h (id_of r.start_edge)) (filter (λ r. eqb (id_of r.face) k) (numbered_from j numbered_ring rings)) ≡ picked h k rings
picked_rows h k j [] = refl
picked_rows h k j (r ∷ rs) = elim (cases_Bool (eqb r.face k)) [
  | inl t ↦ rw t (ap (λ z. h r.edge ∷ z) (picked_rows h k (suc j) rs))
  | inr f ↦ rw f (picked_rows h k (suc j) rs)
]

pub picked_append : (h : ℕ → ℕ) (k : ℕ) (xs ys : List Ring) → picked h k (xs ++ ys) ≡ picked h k xs ++ picked h k ys
picked_append h k [] ys = refl
picked_append h k (r ∷ rs) ys = elim (cases_Bool (eqb r.face k)) [
  | inl t ↦ rw t (ap (λ z. h r.edge ∷ z) (picked_append h k rs ys))
  | inr f ↦ rw f (picked_append h k rs ys)
]

pub picked_flat : (h : ℕ → ℕ) (k : ℕ) (g : ℕ → List Ring) → (fs : List ℕ) → picked h k (flat_map g fs) ≡ flat_map (λ f. picked h k (g f)) fs
picked_flat h k g [] = refl
picked_flat h k g (f ∷ fs) = picked_append h k (g f) (flat_map g fs) ∙ ap (λ z. picked h k (g f) ++ z) (picked_flat h k g fs)

pub picked_none : {X : Type 0} → (h : ℕ → ℕ) (k f : ℕ) (e : X → ℕ) → f ≢ k → (xs : List X) → picked h k (map (λ x. record { face = f; edge = e x }) xs) ≡ []
picked_none h k f e ne [] = refl
picked_none h k f e ne (x ∷ xs) = rw (ne_eqb f k ne) (picked_none h k f e ne xs)

pub picked_all : {X : Type 0} → (h : ℕ → ℕ) (k f : ℕ) (e : X → ℕ) → f ≡ k → (xs : List X)
    → picked h k (map (λ x. record { face = f; edge = e x }) xs) ≡ map (λ x. h (e x)) xs
picked_all h k f e same [] = refl
picked_all h k f e same (x ∷ xs) = rw (eq-eqb f k same) (ap (λ z. h (e x) ∷ z) (picked_all h k f e same xs))

-- two functions that are the same on the rings that pass
pub map_rings : (u v : RingPrimitive → ℕ) (q : RingPrimitive → Bool) (d : RingPrimitive) → (xs : List RingPrimitive)
    → ((j : ℕ) → j < length xs → q (get_or xs j d) ≡ true → u (get_or xs j d) ≡ v (get_or xs j d)) → map u (filter q xs) ≡ map v (filter q xs)
map_rings u v q d [] h = refl
map_rings u v q d (x ∷ xs) h = (
    let rest : map u (filter q xs) ≡ map v (filter q xs) = map_rings u v q d xs (λ j lt t. h (suc j) (omega arith) t) in
    elim (cases_Bool (q x)) [
      | inl t ↦ rw t (ap (λ z. z ∷ map u (filter q xs)) (h zero (omega arith) t) ∙ ap (λ z. v x ∷ z) rest)
      | inr f ↦ rw f rest
    ])
