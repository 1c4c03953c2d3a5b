-- The first ring of each face, where rings are looked at one after the other.
use Rattle.std.proofs.Common.{◌≡◌, ℕ, zero, suc, ◌+◌, ◌<◌, ◌≤◌, Bool, true, false, cond, eqb, ltb, ◌&&◌, refl, sym, ap, ◌∙◌, inl, inr, arith, List, [], ◌∷◌, ◌++◌, length, map, get_or, take}
use Rattle.std.proofs.lemmas.Bool.{cases_Bool, lt-ltb, ne_eqb}
use Rattle.std.proofs.lemmas.List.{get_or_default, length-map, length-take-le, map-append, take_all, take_more}
use Rattle.std.specs.List.{range_with_len}
use Rattle.vpf_prims.specs.Lists.{first_from, first_item}
use Rattle.vpf_tiling.specs.Tiles.{Ring}
use Rattle.vpf_cut_rings.specs.declared.rings.CutRing.{CutRing}
use Rattle.vpf_cut_rings.specs.Inner.Rings.{first_rings_of, first_with, ring_of}

more_from : {X : Type 0} → (p : X → Bool) (k : ℕ) (xs : List X) (x : X)
    → first_from (suc k) p (xs ++ x ∷ []) ≡ first_with (first_from (suc k) p xs) (p x) (suc (length xs + k))
more_from p k [] x = ap (λ n. cond (p x) (suc n) 0) (let e : k ≡ 0 + k = omega arith in e)
more_from p k (y ∷ ys) x = elim (cases_Bool (p y)) [
  | inl t ↦ (let some : eqb (suc k) 0 ≡ false = ne_eqb (suc k) 0 (λ e. omega arith) in rw (t, some) refl)
  | inr n ↦ rw n (more_from p (suc k) ys x ∙ ap (λ j. first_with (first_from (suc (suc k)) p ys) (p x) (suc j)) (let e : length ys + suc k ≡ suc (length ys) + k = omega arith in e))
]

pub first_more : {X : Type 0} → (p : X → Bool) (xs : List X) (x : X) → first_item p (xs ++ x ∷ []) ≡ first_with (first_item p xs) (p x) (length xs + 1)
first_more p xs x = more_from p 0 xs x ∙ ap (first_with (first_item p xs) (p x)) (let e : suc (length xs + 0) ≡ length xs + 1 = omega arith in e)

within_from : {X : Type 0} → (p : X → Bool) (k : ℕ) (xs : List X) → first_from (suc k) p xs ≤ length xs + k
within_from p k [] = omega arith
within_from p k (x ∷ xs) = elim (cases_Bool (p x)) [
  | inl t ↦ rw t (let e : suc k ≤ suc (length xs) + k = omega arith in e)
  | inr n ↦ rw n (let r : first_from (suc (suc k)) p xs ≤ length xs + suc k = within_from p (suc k) xs in omega arith)
]

pub first_inside : {X : Type 0} → (p : X → Bool) (xs : List X) → first_item p xs ≤ length xs
first_inside p xs = let r : first_from 1 p xs ≤ length xs + 0 = within_from p 0 xs in omega arith

-- a list by what stands at each place
pub by_places : (f : ℕ → ℕ) (a n : ℕ) (xs : List ℕ) → length xs ≡ n → ((i : ℕ) → i < n → get_or xs i 0 ≡ f (a + i)) → xs ≡ map f (range_with_len a n)
by_places f a zero [] e h = refl
by_places f a zero (x ∷ xs) e h = absurd (omega arith)
by_places f a (suc n) [] e h = absurd (omega arith)
by_places f a (suc n) (x ∷ xs) e h =
    ap (λ y. y ∷ xs) (h 0 (omega arith) ∙ ap f (let z : a + 0 ≡ a = omega arith in z))
    ∙ ap (λ ys. f a ∷ ys) (by_places f (a + 1) n xs (omega arith) (λ i lt. h (suc i) (omega arith) ∙ ap f (let z : a + suc i ≡ (a + 1) + i = omega arith in z)))

-- the first numbers of faces where one more ring is looked at
pub hold_more : (faces k : ℕ) (rings : List CutRing) (old new : List ℕ) (d : CutRing) → k < length rings → length old ≡ faces
    → ((i : ℕ) → i < faces → get_or old i 0 ≡ first_item (λ (r : Ring). eqb r.face (suc i)) (map ring_of (take k rings)))
    → ((i : ℕ) → get_or new i 0 ≡ first_with (get_or old i 0) (ltb i (length old) && eqb (get_or rings k d).face (i + 1)) (k + 1))
    → (i : ℕ) → i < faces → get_or new i 0 ≡ first_item (λ (r : Ring). eqb r.face (suc i)) (map ring_of (take (k + 1) rings))
hold_more faces k rings old new d h len was put i lt =
    let p : Ring → Bool = λ (r : Ring). eqb r.face (suc i) in
    let x : CutRing = get_or rings k d in
    let before : List Ring = map ring_of (take k rings) in
    let many : length before ≡ k = length-map (take k rings) ring_of ∙ length-take-le k rings (omega arith) in
    let one : i + 1 ≡ suc i = omega arith in
    let inside : ltb i (length old) ≡ true = lt-ltb i (length old) (omega arith) in
    let all : map ring_of (take (k + 1) rings) ≡ before ++ ring_of x ∷ [] =
    ap (map ring_of) (take_more rings k d h) ∙ map-append ring_of (take k rings) (x ∷ []) in
    put i ∙ ap (λ b. first_with (get_or old i 0) (b && eqb x.face (i + 1)) (k + 1)) inside
    ∙ ap (λ j. first_with (get_or old i 0) (eqb x.face j) (k + 1)) one
    ∙ ap (λ b. first_with b (eqb x.face (suc i)) (k + 1)) (was i lt)
    ∙ ap (λ n. first_with (first_item p before) (eqb x.face (suc i)) (n + 1)) (sym many)
    ∙ sym (ap (first_item p) all ∙ first_more p before (ring_of x))

-- where all rings are looked at
pub hold_all : (faces k : ℕ) (rings : List CutRing) (firsts : List ℕ) → length rings ≤ k → length firsts ≡ faces
    → ((i : ℕ) → i < faces → get_or firsts i 0 ≡ first_item (λ (r : Ring). eqb r.face (suc i)) (map ring_of (take k rings)))
    → firsts ≡ first_rings_of faces (map ring_of rings)
hold_all faces k rings firsts le len was =
    by_places (λ j. first_item (λ (r : Ring). eqb r.face j) (map ring_of rings)) 1 faces firsts len (λ i lt.
    was i lt ∙ ap (λ rs. first_item (λ (r : Ring). eqb r.face (suc i)) (map ring_of rs)) (take_all k rings le)
    ∙ ap (λ j. first_item (λ (r : Ring). eqb r.face j) (map ring_of rings)) (let e : suc i ≡ 1 + i = omega arith in e))

pub all_inside : (faces k : ℕ) (rings : List CutRing) (firsts : List ℕ) → length rings ≤ k → length firsts ≡ faces
    → ((i : ℕ) → i < faces → get_or firsts i 0 ≡ first_item (λ (r : Ring). eqb r.face (suc i)) (map ring_of (take k rings)))
    → (i d : ℕ) → i < length firsts → get_or firsts i d ≤ length rings
all_inside faces k rings firsts le len was i d lt =
    let same : get_or firsts i d ≡ get_or firsts i 0 = get_or_default firsts i d 0 lt in
    let is = was i (omega arith) in
    let few : first_item (λ (r : Ring). eqb r.face (suc i)) (map ring_of (take k rings)) ≤ length (map ring_of (take k rings)) =
    first_inside (λ (r : Ring). eqb r.face (suc i)) (map ring_of (take k rings)) in
    let many : length (map ring_of (take k rings)) ≡ length rings = length-map (take k rings) ring_of ∙ ap length (take_all k rings le) in
    omega arith
