-- The boundaries of the faces are the listing of the grid's map.
use Rattle.std.proofs.Common.{[], ◌≡◌, ◌≢◌, ℕ, zero, suc, ◌+◌, ◌<◌, ◌≤◌, true, false, ◌==◌, if◌then◌else◌, List, ◌∷◌, map, refl, sym, ap, subst, ◌∙◌, inl, inr, arith}
use Rattle.std.specs.List.{range_with_len, concat, AllByRecursion}
use Rattle.std.proofs.lemmas.Bool.{cases_Bool, cases_eq}
use Rattle.std.proofs.lemmas.Bool.Decides.{nat_tests}
use Rattle.vpf_darts.specs.Darts.{code}
use Rattle.vpf_darts.specs.Cycles.{count_of, first_of, IsCycle, BeginsWithLeast, FirstsRise}
use Rattle.vpf_vectors.specs.Cells.Maps.{has_dart, next_in_grid, face_in, IsOneCycle}
use Rattle.vpf_vectors.specs.Cells.Rows.{start_dart, face_darts}
use Rattle.vpf_vectors.specs.Inner.Cells.Laws.{FacesAreListed}
use Rattle.vpf_vectors.proofs.cells.CellLemmas.{bounds, bounds_from, bounds_parts}
use Rattle.vpf_vectors.proofs.cells.PlaceLemmas.{face_in_range}
use Rattle.vpf_vectors.proofs.cells.RingLemmas.{face_has_cycle}
use Rattle.vpf_vectors.specs.Cells.Numbers.{faces, arrow_in}
use Rattle.vpf_vectors.specs.Cells.Corners.{beside_x, beside_y}
use Rattle.vpf_darts.specs.Inner.CycleLaws.{count_of-append}

-- what holds of each holds of all
all_mapped : (P : List ℕ → Type 0) (f : ℕ → List ℕ) (a k : ℕ) → ((j : ℕ) → a ≤ j → j < a + k → P (f j)) → AllByRecursion P (map f (range_with_len a k))
all_mapped P f a zero h = tt
all_mapped P f a (suc k) h = (h a (omega arith) (omega arith), all_mapped P f (a + 1) k (λ j low high. h j (omega arith) (omega arith)))

-- a dart that stands in none of the lists, and one that stands in one of them
none_of : (d : ℕ) (f : ℕ → List ℕ) (a k : ℕ) → ((j : ℕ) → a ≤ j → j < a + k → count_of d (f j) ≡ 0) → count_of d (concat (map f (range_with_len a k))) ≡ 0
none_of d f a zero h = refl
none_of d f a (suc k) h =
    let x = h a (omega arith) (omega arith) in
    let r = none_of d f (a + 1) k (λ j low high. h j (omega arith) (omega arith)) in
    let e = count_of-append d (f a) (concat (map f (range_with_len (a + 1) k))) in
    omega (arith, x, r, e)

one_of : (d p : ℕ) (f : ℕ → List ℕ) (a k : ℕ) → a ≤ p → p < a + k → count_of d (f p) ≡ 1 → ((j : ℕ) → a ≤ j → j < a + k → j ≢ p → count_of d (f j) ≡ 0)
    → count_of d (concat (map f (range_with_len a k))) ≡ 1
one_of d p f a zero low high c h = absurd (omega arith)
one_of d p f a (suc k) low high c h =
    let e = count_of-append d (f a) (concat (map f (range_with_len (a + 1) k))) in
    elim (cases_eq a p) [
      | inl q ↦ (
          let x : count_of d (f a) ≡ 1 = ap (λ i. count_of d (f i)) q ∙ c in
          let r = none_of d f (a + 1) k (λ j lo hi. h j (omega arith) (omega arith) (λ z. omega arith)) in
          omega (arith, x, r, e))
      | inr q ↦ (
          let x = h a (omega arith) (omega arith) q in
          let r = one_of d p f (a + 1) k (omega arith) (omega arith) c (λ j lo hi ne. h j (omega arith) (omega arith) ne) in
          omega (arith, x, r, e))
    ]

firsts_above : (f : ℕ → List ℕ) (b a k : ℕ) → ((j : ℕ) → a ≤ j → j < a + k → b < first_of (f j))
    → AllByRecursion (λ ys. b < first_of ys) (map f (range_with_len a k))
firsts_above f b a zero h = tt
firsts_above f b a (suc k) h = (h a (omega arith) (omega arith), firsts_above f b (a + 1) k (λ j low high. h j (omega arith) (omega arith)))

firsts_rise : (f : ℕ → List ℕ) (a k : ℕ) → ((i j : ℕ) → a ≤ i → i < j → j < a + k → first_of (f i) < first_of (f j)) → FirstsRise (map f (range_with_len a k))
firsts_rise f a zero h = tt
firsts_rise f a (suc k) h = (
  firsts_above f (first_of (f a)) (a + 1) k (λ j low high. h a j (omega arith) (omega arith) (omega arith)),
  firsts_rise f (a + 1) k (λ i j lo lt hi. h i j (omega arith) lt (omega arith)),
)

-- numbers of which the first stands once and is none above
above_first : (x : ℕ) (xs : List ℕ) → ((y : ℕ) → 0 < count_of y xs → x ≤ y) → count_of x xs ≡ 0 → AllByRecursion (λ y. x < y) xs
above_first x [] h none = tt
above_first x (y ∷ ys) h none = elim (cases_eq y x) [
  | inl e ↦ (let t : (y == x) ≡ true = grind (arith, nat_tests) in let o : count_of x (y ∷ ys) ≡ 1 + count_of x ys = rw t refl in absurd (omega arith))
  | inr ne ↦ (
      let t : (y == y) ≡ true = grind (arith, nat_tests) in
      let o : count_of y (y ∷ ys) ≡ 1 + count_of y ys = rw t refl in
      let le : x ≤ y = h y (omega arith) in
      let u : (y == x) ≡ false = grind (arith, nat_tests) in
      let p : count_of x (y ∷ ys) ≡ 0 + count_of x ys = rw u refl in (
        omega arith,
        above_first x ys (λ z c. h z (let q : count_of z (y ∷ ys) ≡ (if y == z then 1 else 0) + count_of z ys = refl in omega (arith, q, c))) (omega arith),
      ))
]

begins : (darts : List ℕ) → ((y : ℕ) → 0 < count_of y darts → first_of darts ≤ y) → 0 < count_of (first_of darts) darts → count_of (first_of darts) darts ≤ 1
    → BeginsWithLeast darts
begins [] h some one = absurd (omega arith)
begins (x ∷ xs) h some one =
    let t : (x == x) ≡ true = grind (arith, nat_tests) in
    let o : count_of x (x ∷ xs) ≡ 1 + count_of x xs = rw t refl in
    above_first x xs (λ y c. h y (let q : count_of y (x ∷ xs) ≡ (if x == y then 1 else 0) + count_of y xs = refl in omega (arith, q, c))) (omega arith)

-- what the darts along a face are
pub record AreAlong (n f : ℕ) (darts : List ℕ) : Type 0 where
  pub one : IsOneCycle (next_in_grid n) (bounds n f) darts
  pub first : first_of darts ≡ start_dart f
  pub least : BeginsWithLeast darts

along : (n f : ℕ) → 1 ≤ n → 1 ≤ f → f ≤ faces n → AreAlong n f (face_darts n f)
along n f le low high =
    let h = face_has_cycle n f le low high in
    let s : count_of h.start h.darts ≡ 1 = h.one.once h.start ∙ ap (λ b. if b then 1 else 0) (bounds_from n f h.start h.there h.of_face) in
    let t : count_of (first_of h.darts) h.darts ≡ 1 = ap (λ k. count_of k h.darts) h.first ∙ s in
    subst (AreAlong n f) h.along (record {
      one = h.one;
      first = h.first ∙ h.number;
      least = begins h.darts (λ y c. elim (cases_Bool (bounds n f y)) [
        | inl b ↦ (let p = bounds_parts n f y b in subst (λ k. k ≤ y) (sym h.first) (h.least y p.0 p.1))
        | inr b ↦ (let z : count_of y h.darts ≡ 0 = h.one.once y ∙ ap (λ b. if b then 1 else 0) b in absurd (omega arith))
      ]) (omega arith) (omega arith);
    })

start_rises : (i j : ℕ) → 1 ≤ i → i < j → start_dart i < start_dart j
unfolding start_dart code
start_rises i j low lt =
    let b : (j == 1) ≡ false = grind (arith, nat_tests) in
    elim (cases_Bool (i == 1)) [ inl t ↦ rw (t, b) (let e : i ≡ 1 = grind (arith, nat_tests) in omega arith) | inr f ↦ rw (f, b) (omega arith) ]

other_face : (n d j : ℕ) → face_in n d ≢ j → bounds n j d ≡ false
other_face n d j ne = grind (arith, nat_tests)

no_dart : (n d j : ℕ) → has_dart n d ≡ false → bounds n j d ≡ false
no_dart n d j f = grind (arith, nat_tests)

pub faces_listed : FacesAreListed
faces_listed n le = record {
  cycles = record {
    cycles = all_mapped (IsCycle (next_in_grid n)) (face_darts n) 1 (faces n) (λ j low high. (along n j le low (omega arith)).one.cycle);
    once = λ d. elim (cases_Bool (has_dart n d)) [
      | inl t ↦ (
          let i = face_in_range n (beside_x (arrow_in n d).way (arrow_in n d).x) (beside_y (arrow_in n d).way (arrow_in n d).y) in
          rw t (one_of d (face_in n d) (face_darts n) 1 (faces n) i.0 (omega (arith, i))
          ((along n (face_in n d) le i.0 i.1).one.once d ∙ ap (λ b. if b then 1 else 0) (bounds_from n (face_in n d) d t refl))
          (λ j low high ne. (along n j le low (omega arith)).one.once d ∙ ap (λ b. if b then 1 else 0) (other_face n d j (λ e. ne (sym e))))))
      | inr f ↦ rw f
          (none_of d (face_darts n) 1 (faces n) (λ j low high. (along n j le low (omega arith)).one.once d ∙ ap (λ b. if b then 1 else 0) (no_dart n d j f)))
    ];
  };
  least = all_mapped BeginsWithLeast (face_darts n) 1 (faces n) (λ j low high. (along n j le low (omega arith)).least);
  rise = firsts_rise (face_darts n) 1 (faces n) (λ i j lo lt hi. (
      let a = (along n i le lo (omega arith)).first in
      let b = (along n j le (omega arith) (omega arith)).first in
      let s = start_rises i j lo lt in
      omega (arith, a, b, s)));
}
