-- The darts of face 1 are one cycle of next.
use Rattle.std.proofs.Common.{◌≡◌, ℕ, suc, ◌+◌, ◌-◌, ◌*◌, ◌<◌, ◌≤◌, true, false, nat_lt, map, refl, sym, ap, subst, ◌∙◌, inl, inr, arith}
use Rattle.std.proofs.lemmas.Bool.{cases_Bool, cases_lt}
use Rattle.std.proofs.lemmas.Bool.Decides.{nat_tests}
use Rattle.std.specs.List.{range_with_len}
use Rattle.vpf_darts.specs.Cycles.{IsCycle}
use Rattle.vpf_vectors.specs.Cells.Corners.{Way, East, North, West, South, Arrow, has_arrow, next_arrow, beside_x, beside_y}
use Rattle.vpf_vectors.specs.Cells.Numbers.{has_cell, face_at, arrow_face, arrow_number, arrow_in}
use Rattle.vpf_vectors.specs.Cells.Maps.{has_dart, next_in_grid, IsOneCycle, border_arrow, border_dart, border_darts}
use Rattle.vpf_vectors.proofs.cells.ArrowLemmas.{arrow}
use Rattle.vpf_vectors.proofs.cells.NumberLemmas.{number_has, arrow_has, arrow_of_number, number_of_arrow}
use Rattle.vpf_vectors.proofs.cells.FaceLemmas.{face-outside}
use Rattle.vpf_vectors.proofs.cells.NodeLemmas.{next_of_number}
use Rattle.vpf_vectors.proofs.cells.CellLemmas.{bounds, bounds_parts, bounds_from}
use Rattle.vpf_vectors.proofs.cells.CycleLemmas.{ranged_cycle, ranged_none, ranged_one}

-- the four sides of the border
pub below : (n i : ℕ) → i < n → border_arrow n i ≡ arrow i 0 East
below n i h = let t : nat_lt i n ≡ true = grind (arith, nat_tests) in rw t refl

pub beyond : (n i : ℕ) → n ≤ i → i < 2 * n → border_arrow n i ≡ arrow n (i - n) North
beyond n i g h = let f : nat_lt i n ≡ false = grind (arith, nat_tests) in let t : nat_lt i (2 * n) ≡ true = grind (arith, nat_tests) in rw (f, t) refl

pub above : (n i : ℕ) → 2 * n ≤ i → i < 3 * n → border_arrow n i ≡ arrow (3 * n - i) n West
above n i g h =
    let f : nat_lt i n ≡ false = grind (arith, nat_tests) in
    let f' : nat_lt i (2 * n) ≡ false = grind (arith, nat_tests) in
    let t : nat_lt i (3 * n) ≡ true = grind (arith, nat_tests) in
    rw (f, f', t) refl

pub before : (n i : ℕ) → 3 * n ≤ i → border_arrow n i ≡ arrow 0 (4 * n - i) South
before n i g =
    let f : nat_lt i n ≡ false = grind (arith, nat_tests) in
    let f' : nat_lt i (2 * n) ≡ false = grind (arith, nat_tests) in
    let f'' : nat_lt i (3 * n) ≡ false = grind (arith, nat_tests) in
    rw (f, f', f'') refl

-- what holds of the darts of each side holds of each dart of the border
by_sides : (n i : ℕ) (P : Arrow → Type 0) → (i < n → P (arrow i 0 East)) → (n ≤ i → i < 2 * n → P (arrow n (i - n) North))
    → (2 * n ≤ i → i < 3 * n → P (arrow (3 * n - i) n West)) → (3 * n ≤ i → P (arrow 0 (4 * n - i) South)) → P (border_arrow n i)
by_sides n i P a b c d = elim (cases_lt i n) [
  | inl h ↦ subst P (sym (below n i h)) (a h)
  | inr h ↦ elim (cases_lt i (2 * n)) [
    | inl k ↦ subst P (sym (beyond n i h k)) (b h k)
    | inr k ↦ elim (cases_lt i (3 * n)) [
      | inl l ↦ subst P (sym (above n i k l)) (c k l)
      | inr l ↦ subst P (sym (before n i l)) (d l)
    ]
  ]
]

pub border_has : (n i : ℕ) → i < 4 * n → has_arrow n (border_arrow n i) ≡ true
border_has n i lt = by_sides n i (λ a. has_arrow n a ≡ true) (λ h. grind (arith, nat_tests)) (λ h k. grind (arith, nat_tests)) (λ h k. grind (arith, nat_tests))
    (λ h. grind (arith, nat_tests))

pub border_outside : (n i : ℕ) → i < 4 * n → arrow_face n (border_arrow n i) ≡ 1
border_outside n i lt = by_sides n i (λ a. arrow_face n a ≡ 1)
    (λ h. face-outside n (i + 1) 0 (grind (arith, nat_tests)))
    (λ h k. face-outside n (n + 1) (i - n + 1) (grind (arith, nat_tests)))
    (λ h k. face-outside n (3 * n - i) (n + 1) (grind (arith, nat_tests)))
    (λ h. face-outside n 0 (4 * n - i) (grind (arith, nat_tests)))

-- round the corners and along the sides
corner-1 : (n i : ℕ) → i < n → next_arrow n (arrow i 0 East) ≡ border_arrow n (i + 1)
corner-1 n i h = elim (cases_lt (i + 1) n) [
  | inl k ↦ rw (below n (i + 1) k) (grind (arith, nat_tests))
  | inr k ↦ rw (beyond n (i + 1) k (omega arith)) (let e : suc i ≡ n = omega arith in grind (arith, nat_tests))
]

corner-2 : (n i : ℕ) → n ≤ i → i < 2 * n → next_arrow n (arrow n (i - n) North) ≡ border_arrow n (i + 1)
corner-2 n i g h = elim (cases_lt (i + 1) (2 * n)) [
  | inl k ↦ rw (beyond n (i + 1) (omega arith) k) (grind (arith, nat_tests))
  | inr k ↦ rw (above n (i + 1) k (omega arith)) (let e : suc i ≡ 2 * n = omega arith in grind (arith, nat_tests))
]

corner-3 : (n i : ℕ) → 2 * n ≤ i → i < 3 * n → next_arrow n (arrow (3 * n - i) n West) ≡ border_arrow n (i + 1)
corner-3 n i g h = elim (cases_lt (i + 1) (3 * n)) [
  | inl k ↦ rw (above n (i + 1) (omega arith) k) (grind (arith, nat_tests))
  | inr k ↦ rw (before n (i + 1) k) (let e : suc i ≡ 3 * n = omega arith in grind (arith, nat_tests))
]

corner-4 : (n i : ℕ) → 3 * n ≤ i → suc i < 4 * n → next_arrow n (arrow 0 (4 * n - i) South) ≡ border_arrow n (i + 1)
corner-4 n i g h = rw (before n (i + 1) (omega arith)) (grind (arith, nat_tests))

pub border_next : (n i : ℕ) → suc i < 4 * n → next_arrow n (border_arrow n i) ≡ border_arrow n (i + 1)
border_next n i lt = by_sides n i (λ a. next_arrow n a ≡ border_arrow n (i + 1)) (corner-1 n i) (corner-2 n i) (corner-3 n i) (λ g. corner-4 n i g lt)

pub border_last : (n i : ℕ) → suc i ≡ 4 * n → next_arrow n (border_arrow n i) ≡ border_arrow n 0
border_last n i e = rw (before n i (omega arith), below n 0 (omega arith)) (grind (arith, nat_tests))

-- the place of a dart of the border
abbrev pub place_along : ℕ → ℕ → ℕ → Way → ℕ
place_along n x y East = x
place_along n x y North = n + y
place_along n x y West = 3 * n - x
place_along n x y South = 4 * n - y

pub border_place : (n i : ℕ) → i < 4 * n → place_along n (border_arrow n i).x (border_arrow n i).y (border_arrow n i).way ≡ i
border_place n i lt = by_sides n i (λ a. place_along n a.x a.y a.way ≡ i) (λ h. refl) (λ h k. omega arith) (λ h k. omega arith) (λ h. omega arith)

pub outside_from_one : (n x y : ℕ) → face_at n x y ≡ 1 → has_cell n x y ≡ false
unfolding face_at
outside_from_one n x y e = elim (cases_Bool (has_cell n x y)) [
  | inl t ↦ (let f : 2 + (y - 1) * n + (x - 1) ≡ 1 = rw t at e in absurd (omega arith))
  | inr f ↦ f
]

pub along_border : (n x y : ℕ) (w : Way) → has_arrow n (arrow x y w) ≡ true → has_cell n (beside_x w x) (beside_y w y) ≡ false
    → (place_along n x y w < 4 * n) × (border_arrow n (place_along n x y w) ≡ arrow x y w)
along_border n x y East h out =
    let b : (x < n) × (y ≡ 0) = grind (arith, nat_tests) in
    (omega (arith, b), below n x b.0 ∙ ap (λ k. arrow x k East) (sym b.1))
along_border n x y North h out =
    let b : (y < n) × (x ≡ n) = grind (arith, nat_tests) in
    let e : n + y - n ≡ y = omega arith in
    (omega (arith, b), beyond n (n + y) (omega arith) (omega (arith, b)) ∙ ap (λ k. arrow n k North) e ∙ ap (λ k. arrow k y North) (sym b.1))
along_border n x y West h out =
    let b : (1 ≤ x) × (x ≤ n) × (y ≡ n) = grind (arith, nat_tests) in
    let e : 3 * n - (3 * n - x) ≡ x = omega (arith, b) in
    (omega (arith, b), above n (3 * n - x) (omega (arith, b)) (omega (arith, b)) ∙ ap (λ k. arrow k n West) e ∙ ap (λ k. arrow x k West) (sym b.2))
along_border n x y South h out =
    let b : (1 ≤ y) × (y ≤ n) × (x ≡ 0) = grind (arith, nat_tests) in
    let e : 4 * n - (4 * n - y) ≡ y = omega (arith, b) in
    (omega (arith, b), before n (4 * n - y) (omega (arith, b)) ∙ ap (λ k. arrow 0 k South) e ∙ ap (λ k. arrow k y South) (sym b.2))

pub border_is_one_cycle : (n : ℕ) → 1 ≤ n → IsOneCycle (next_in_grid n) (bounds n 1) (border_darts n)
border_is_one_cycle n le = record {
  cycle = (
      let k : suc (4 * n - 1) ≡ 4 * n = omega arith in
      subst (λ k. IsCycle (next_in_grid n) (map (border_dart n) (range_with_len 0 k))) k (ranged_cycle (next_in_grid n) (border_dart n) (4 * n - 1)
      (λ j lt. next_of_number n (border_arrow n j) (border_has n j (omega arith)) ∙ ap (arrow_number n) (border_next n j (omega arith)))
      (next_of_number n (border_arrow n (4 * n - 1)) (border_has n (4 * n - 1) (omega arith)) ∙ ap (arrow_number n) (border_last n (4 * n - 1) k))));
  once = λ d. elim (cases_Bool (bounds n 1 d)) [
    | inl t ↦ (
        let q = bounds_parts n 1 d t in
        let a = arrow_has n d le q.0 in
        let x : ℕ = (arrow_in n d).x in
        let y : ℕ = (arrow_in n d).y in
        let w : Way = (arrow_in n d).way in
        let s = along_border n (arrow_in n d).x (arrow_in n d).y (arrow_in n d).way a
        (outside_from_one n (beside_x (arrow_in n d).way (arrow_in n d).x) (beside_y (arrow_in n d).way (arrow_in n d).y) q.1) in
        rw t (ranged_one (border_dart n) d (place_along n (arrow_in n d).x (arrow_in n d).y (arrow_in n d).way) 0 (4 * n) (omega arith) (omega (arith, s))
        (ap (arrow_number n) s.1 ∙ number_of_arrow n d le q.0)
        (λ j low high e. (
        let r : border_arrow n j ≡ arrow_in n d = sym (arrow_of_number n (border_arrow n j) (border_has n j (omega arith))) ∙ ap (arrow_in n) e in
        sym (border_place n j (omega arith)) ∙ ap (λ (b : Arrow). place_along n b.x b.y b.way) r))))
    | inr f ↦ rw f (ranged_none (border_dart n) d 0 (4 * n) (λ j low high e. (
        let h = border_has n j (omega arith) in
        let r : border_arrow n j ≡ arrow_in n d = sym (arrow_of_number n (border_arrow n j) h) ∙ ap (arrow_in n) e in
        let t : bounds n 1 d ≡ true = bounds_from n 1 d (ap (has_dart n) (sym e) ∙ number_has n (border_arrow n j) h)
        (ap (arrow_face n) (sym r) ∙ border_outside n j (omega arith)) in
        cc)))
  ];
}
