-- The next keeps the face, and its tail is the head.
use Rattle.std.proofs.Common.{◌≡◌, ◌≢◌, ℕ, ◌+◌, ◌≤◌, Bool, true, false, refl, sym, ap, ◌∙◌, inl, inr, arith}
use Rattle.std.proofs.lemmas.Bool.{cases_Bool}
use Rattle.std.proofs.lemmas.Bool.Decides.{nat_tests}
use Rattle.std.proofs.lemmas.Nat.{same_from_place}
use Rattle.vpf_darts.specs.Darts.{flip}
use Rattle.vpf_vectors.specs.Cells.Corners.{Way, East, North, West, South, has_arrow, step_x, step_y}
use Rattle.vpf_vectors.specs.Cells.Corners.{beside_x, beside_y, right_of, left_of, leads, flip_arrow, next_arrow}
use Rattle.vpf_vectors.specs.Cells.Numbers.{node_of, has_cell, face_at, arrow_face, arrow_tail, arrow_in}
use Rattle.vpf_vectors.specs.Cells.Maps.{has_dart, next_in_grid, tail_in, head_in, face_in}
use Rattle.vpf_vectors.proofs.cells.WayLemmas.{first-a, first-b, first-c}
use Rattle.vpf_vectors.proofs.cells.ArrowLemmas.{arrow, has_parts, flip_has}
use Rattle.vpf_vectors.proofs.cells.NumberLemmas.{arrow_has, number_of_arrow, arrow_of_number, flip_number}
use Rattle.vpf_vectors.proofs.cells.MapLemmas.{arrow_of_next}

-- turning right keeps the cell
pub right_turn_x : (n x y : ℕ) (w : Way) → has_arrow n (arrow x y w) ≡ true → beside_x (right_of w) (step_x w x) ≡ beside_x w x
right_turn_x n x y East h = refl
right_turn_x n x y North h = refl
right_turn_x n x y West h = grind (arith, nat_tests)
right_turn_x n x y South h = refl

pub right_turn_y : (n x y : ℕ) (w : Way) → has_arrow n (arrow x y w) ≡ true → beside_y (right_of w) (step_y w y) ≡ beside_y w y
right_turn_y n x y East h = refl
right_turn_y n x y North h = refl
right_turn_y n x y West h = refl
right_turn_y n x y South h = grind (arith, nat_tests)

-- where there is no turning right, the cell is outside, and so is that of the next
pub outside : (n x y : ℕ) (w : Way) → has_arrow n (arrow x y w) ≡ true → leads n (step_x w x) (step_y w y) (right_of w) ≡ false
    → has_cell n (beside_x w x) (beside_y w y) ≡ false
outside n x y East h none = grind (arith, nat_tests)
outside n x y North h none = grind (arith, nat_tests)
outside n x y West h none = grind (arith, nat_tests)
outside n x y South h none = grind (arith, nat_tests)

pub outside_straight : (n x y : ℕ) (w : Way) → has_arrow n (arrow x y w) ≡ true → leads n (step_x w x) (step_y w y) (right_of w) ≡ false
    → has_cell n (beside_x w (step_x w x)) (beside_y w (step_y w y)) ≡ false
outside_straight n x y East h none = grind (arith, nat_tests)
outside_straight n x y North h none = grind (arith, nat_tests)
outside_straight n x y West h none = grind (arith, nat_tests)
outside_straight n x y South h none = grind (arith, nat_tests)

pub outside_left : (n x y : ℕ) (w : Way) → has_arrow n (arrow x y w) ≡ true → leads n (step_x w x) (step_y w y) w ≡ false
    → has_cell n (beside_x (left_of w) (step_x w x)) (beside_y (left_of w) (step_y w y)) ≡ false
outside_left n x y East h none = grind (arith, nat_tests)
outside_left n x y North h none = grind (arith, nat_tests)
outside_left n x y West h none = grind (arith, nat_tests)
outside_left n x y South h none = grind (arith, nat_tests)

pub face-outside : (n x y : ℕ) → has_cell n x y ≡ false → face_at n x y ≡ 1
unfolding face_at
face-outside n x y none = rw none refl

pub face_kept : (n x y : ℕ) (w : Way) → has_arrow n (arrow x y w) ≡ true → arrow_face n (next_arrow n (arrow x y w)) ≡ face_at n (beside_x w x) (beside_y w y)
face_kept n x y w h =
    let p : Way → Bool = leads n (step_x w x) (step_y w y) in
    let to : Way → ℕ = λ v. face_at n (beside_x v (step_x w x)) (beside_y v (step_y w y)) in
    elim (cases_Bool (leads n (step_x w x) (step_y w y) (right_of w))) [
      | inl t ↦ ap to (first-a p (right_of w) w (left_of w) t) ∙ ap (λ k. face_at n k (beside_y (right_of w) (step_y w y))) (right_turn_x n x y w h)
          ∙ ap (face_at n (beside_x w x)) (right_turn_y n x y w h)
      | inr f ↦ elim (cases_Bool (leads n (step_x w x) (step_y w y) w)) [
        | inl t ↦ ap to (first-b p (right_of w) w (left_of w) f t)
            ∙ face-outside n (beside_x w (step_x w x)) (beside_y w (step_y w y)) (outside_straight n x y w h f)
            ∙ sym (face-outside n (beside_x w x) (beside_y w y) (outside n x y w h f))
        | inr g ↦ ap to (first-c p (right_of w) w (left_of w) f g)
            ∙ face-outside n (beside_x (left_of w) (step_x w x)) (beside_y (left_of w) (step_y w y)) (outside_left n x y w h g)
            ∙ sym (face-outside n (beside_x w x) (beside_y w y) (outside n x y w h f))
      ]
    ]

pub next-face : (n d : ℕ) → 1 ≤ n → has_dart n d ≡ true → face_in n (next_in_grid n d) ≡ face_in n d
next-face n d le h = ap (arrow_face n) (arrow_of_next n d le h) ∙ face_kept n (arrow_in n d).x (arrow_in n d).y (arrow_in n d).way (arrow_has n d le h)

pub next-tail : (n d : ℕ) → 1 ≤ n → has_dart n d ≡ true → tail_in n (next_in_grid n d) ≡ head_in n d
next-tail n d le h = ap (arrow_tail n) (arrow_of_next n d le h)

-- the flip of a dart is that of its arrow
pub arrow_of_flip : (n d : ℕ) → 1 ≤ n → has_dart n d ≡ true → arrow_in n (flip d) ≡ flip_arrow (arrow_in n d)
arrow_of_flip n d le h =
    let a = arrow_has n d le h in
    ap (λ k. arrow_in n (flip k)) (sym (number_of_arrow n d le h)) ∙ ap (arrow_in n) (flip_number n (arrow_in n d).x (arrow_in n d).y (arrow_in n d).way a)
    ∙ arrow_of_number n (flip_arrow (arrow_in n d)) (flip_has n (arrow_in n d).x (arrow_in n d).y (arrow_in n d).way a)

pub head-flip : (n d : ℕ) → 1 ≤ n → has_dart n d ≡ true → tail_in n (flip d) ≡ head_in n d
head-flip n d le h = ap (arrow_tail n) (arrow_of_flip n d le h)

-- a node's number names its corner
pub same_corner : (n x y u v : ℕ) → x ≤ n → u ≤ n → node_of n x y ≡ node_of n u v → (x ≡ u) × (y ≡ v)
unfolding node_of
same_corner n x y u v hx hu e = let s : (y ≡ v) × (x ≡ u) = same_from_place y x v u (n + 1) (omega arith) (omega arith) (omega arith) in (s.1, s.0)

moved : (n x y : ℕ) (w : Way) → has_arrow n (arrow x y w) ≡ true → step_x w x ≡ x → step_y w y ≢ y
moved n x y East h e f = omega arith
moved n x y North h e f = omega arith
moved n x y West h e f = let low : 1 ≤ x = grind (arith, nat_tests) in omega arith
moved n x y South h e f = let low : 1 ≤ y = grind (arith, nat_tests) in omega arith

pub no_loop-arrow : (n x y : ℕ) (w : Way) → has_arrow n (arrow x y w) ≡ true → node_of n x y ≢ node_of n (step_x w x) (step_y w y)
no_loop-arrow n x y w h e =
    let p = has_parts n x y w h in
    let q = has_parts n (step_x w x) (step_y w y) _ (flip_has n x y w h) in
    let s = same_corner n x y (step_x w x) (step_y w y) p.0 q.0 e in
    moved n x y w h (sym s.0) (sym s.1)

-- no edge is a loop
pub no_loop : (n d : ℕ) → 1 ≤ n → has_dart n d ≡ true → tail_in n d ≢ head_in n d
no_loop n d le h = no_loop-arrow n (arrow_in n d).x (arrow_in n d).y (arrow_in n d).way (arrow_has n d le h)
