-- The two sides of an edge.
use Rattle.std.proofs.Common.{◌≡◌, ◌≢◌, ℕ, ◌+◌, ◌-◌, ◌≤◌, true, false, sym, ap, ◌∙◌, inl, inr, arith}
use Rattle.std.proofs.lemmas.Bool.{cases_Bool}
use Rattle.std.proofs.lemmas.Bool.Decides.{nat_tests}
use Rattle.vpf_darts.specs.Darts.{flip}
use Rattle.vpf_vectors.specs.Cells.Corners.{Way, East, North, West, South, has_arrow, step_x, step_y, back_of, beside_x, beside_y}
use Rattle.vpf_vectors.specs.Cells.Numbers.{has_cell, face_at, arrow_face, arrow_in}
use Rattle.vpf_vectors.specs.Cells.Maps.{has_dart, face_in}
use Rattle.vpf_vectors.proofs.cells.ArrowLemmas.{arrow}
use Rattle.vpf_vectors.proofs.cells.NumberLemmas.{arrow_has}
use Rattle.vpf_vectors.proofs.cells.FaceLemmas.{arrow_of_flip}
use Rattle.vpf_vectors.proofs.cells.CellLemmas.{same_cell}

-- where one of two cells is there and they have one face, they are one cell
pub one_cell : (n u v s t : ℕ) → has_cell n s t ≡ true → face_at n u v ≡ face_at n s t → (u ≡ s) × (v ≡ t)
one_cell n u v s t h e =
    let b : (1 ≤ s) × (s ≤ n) × (1 ≤ t) × (t ≤ n) = grind (arith, nat_tests) in
    let ps : (s - 1) + 1 ≡ s = omega (arith, b) in
    let pt : (t - 1) + 1 ≡ t = omega (arith, b) in
    let c = same_cell n (s - 1) (t - 1) u v (omega (arith, b)) (omega (arith, b))
    (e ∙ ap (λ k. face_at n k t) (sym ps) ∙ ap (face_at n ((s - 1) + 1)) (sym pt)) in
    (c.0 ∙ ps, c.1 ∙ pt)

-- the cells on both sides of an edge: one of them is there, and they differ
left_x : Way → ℕ → ℕ
left_x w x = beside_x (back_of w) (step_x w x)

left_y : Way → ℕ → ℕ
left_y w y = beside_y (back_of w) (step_y w y)

one_side : (n x y : ℕ) (w : Way) → 1 ≤ n → has_arrow n (arrow x y w) ≡ true → has_cell n (left_x w x) (left_y w y) ≡ false
    → has_cell n (beside_x w x) (beside_y w y) ≡ true
unfolding left_x left_y
one_side n x y East le h f = grind (arith, nat_tests)
one_side n x y North le h f = grind (arith, nat_tests)
one_side n x y West le h f = grind (arith, nat_tests)
one_side n x y South le h f = grind (arith, nat_tests)

two_sides : (n x y : ℕ) (w : Way) → has_arrow n (arrow x y w) ≡ true → beside_x w x ≡ left_x w x → beside_y w y ≢ left_y w y
unfolding left_x left_y
two_sides n x y East h e f = omega arith
two_sides n x y North h e f = omega arith
two_sides n x y West h e f = omega arith
two_sides n x y South h e f = omega arith

sides_apart-arrow : (n x y : ℕ) (w : Way) → 1 ≤ n → has_arrow n (arrow x y w) ≡ true
    → face_at n (beside_x w x) (beside_y w y) ≢ face_at n (left_x w x) (left_y w y)
sides_apart-arrow n x y w le h e = elim (cases_Bool (has_cell n (left_x w x) (left_y w y))) [
  | inl t ↦ (let c = one_cell n (beside_x w x) (beside_y w y) (left_x w x) (left_y w y) t e in two_sides n x y w h c.0 c.1)
  | inr f ↦ (let c = one_cell n (left_x w x) (left_y w y) (beside_x w x) (beside_y w y) (one_side n x y w le h f) (sym e) in
      two_sides n x y w h (sym c.0) (sym c.1))
]

-- no edge has one face on both sides
pub sides_apart : (n d : ℕ) → 1 ≤ n → has_dart n d ≡ true → face_in n d ≢ face_in n (flip d)
unfolding left_x left_y
sides_apart n d le h e = sides_apart-arrow n (arrow_in n d).x (arrow_in n d).y (arrow_in n d).way le (arrow_has n d le h)
    (e ∙ ap (arrow_face n) (arrow_of_flip n d le h))
