-- The rows of edges by corners and borders.
use Rattle.std.proofs.Common.{◌≡◌, ℕ, ◌+◌, ◌-◌, ◌/◌, ◌<◌, ◌≤◌, true, false, nat_lt, sym, ap, ◌∙◌, inl, inr, arith}
use Rattle.std.proofs.lemmas.Bool.{cases_Bool}
use Rattle.std.proofs.lemmas.Bool.Decides.{nat_tests}
use Rattle.vpf_darts.specs.Darts.{code}
use Rattle.vpf_vectors.specs.declared.cells.rows.EdgeRow.{EdgeRow}
use Rattle.vpf_vectors.specs.Cells.Corners.{Way, East, North, West, South, Arrow, has_arrow, next_from, head_x, head_y, beside_x, beside_y}
use Rattle.vpf_vectors.specs.Cells.Numbers.{east_edge, north_edge, arrow_number, number_from, arrow_in, node_of, face_at}
use Rattle.vpf_vectors.specs.Cells.Maps.{next_in_grid}
use Rattle.vpf_vectors.specs.Cells.Rows.{row_of_edge, after_east, after_west, after_north, after_south, divides_tiles}
use Rattle.vpf_vectors.specs.Inner.Cells.Laws.{EastRows, NorthRows}
use Rattle.vpf_vectors.proofs.cells.ArrowLemmas.{arrow}
use Rattle.vpf_vectors.proofs.cells.CaseLemmas.{cases_agree}
use Rattle.vpf_vectors.proofs.cells.NumberLemmas.{arrow_of_number}
use Rattle.vpf_vectors.proofs.cells.NodeLemmas.{next_of_number}

-- the row of an edge from what its two darts are
abbrev row_from : ℕ → Arrow → Arrow → ℕ → ℕ → EdgeRow
row_from n plus minus right left = record {
  start_node = node_of n plus.x plus.y;
  end_node = node_of n (head_x plus) (head_y plus);
  right_face = face_at n (beside_x plus.way plus.x) (beside_y plus.way plus.y);
  left_face = face_at n (beside_x minus.way minus.x) (beside_y minus.way minus.y);
  right_edge = right;
  left_edge = left;
  tile_line = divides_tiles n (face_at n (beside_x plus.way plus.x) (beside_y plus.way plus.y))
      (face_at n (beside_x minus.way minus.x) (beside_y minus.way minus.y));
}

row_is : (n e : ℕ) (plus minus : Arrow) (right left : ℕ) → arrow_in n (code 0 e 0) ≡ plus → arrow_in n (code 0 e 1) ≡ minus
    → next_in_grid n (code 0 e 0) / 2 ≡ right → next_in_grid n (code 0 e 1) / 2 ≡ left → row_of_edge n e ≡ row_from n plus minus right left
row_is n e plus minus right left p m r l =
    ap (λ a. row_from n a (arrow_in n (code 0 e 1)) (next_in_grid n (code 0 e 0) / 2) (next_in_grid n (code 0 e 1) / 2)) p
    ∙ ap (λ a. row_from n plus a (next_in_grid n (code 0 e 0) / 2) (next_in_grid n (code 0 e 1) / 2)) m
    ∙ ap (λ k. row_from n plus minus k (next_in_grid n (code 0 e 1) / 2)) r
    ∙ ap (row_from n plus minus right) l

-- the edge that follows a dart
follows : (n x y : ℕ) (w : Way) → 1 ≤ n → has_arrow n (arrow x y w) ≡ true → next_in_grid n (number_from n x y w) / 2 ≡ arrow_number n (next_from n x y w) / 2
follows n x y w le h = ap (λ k. k / 2) (next_of_number n (arrow x y w) h ∙ ap (arrow_number n) (cases_agree n x y w le h))

plus_half : (e : ℕ) → code 0 e 0 / 2 ≡ e
unfolding code
plus_half e = omega arith

minus_half : (e : ℕ) → code 0 e 1 / 2 ≡ e
unfolding code
minus_half e = omega arith

from_east : (n x y : ℕ) → arrow_number n (next_from n x y East) / 2 ≡ after_east n x y
unfolding after_east
from_east n x y = elim (cases_Bool (nat_lt 0 y)) [
  | inl t ↦ rw t (minus_half (north_edge n (x + 1) (y - 1)))
  | inr f ↦ elim (cases_Bool (nat_lt (x + 1) n)) [
    | inl t ↦ rw (f, t) (plus_half (east_edge n (x + 1) y))
    | inr g ↦ rw (f, g) (plus_half (north_edge n (x + 1) y))
  ]
]

from_west : (n x y : ℕ) → x < n → arrow_number n (next_from n (x + 1) y West) / 2 ≡ after_west n x y
unfolding after_west
from_west n x y h =
    let e : x + 1 - 1 ≡ x = omega arith in
    elim (cases_Bool (nat_lt y n)) [
      | inl t ↦ rw (t, e) (plus_half (north_edge n x y))
      | inr f ↦ elim (cases_Bool (nat_lt 0 x)) [
        | inl t ↦ (let t' : nat_lt 1 (x + 1) ≡ true = grind (arith, nat_tests) in rw (f, t', t, e) (minus_half (east_edge n (x - 1) y)))
        | inr g ↦ (let g' : nat_lt 1 (x + 1) ≡ false = grind (arith, nat_tests) in rw (f, g', g, e) (minus_half (north_edge n x (y - 1))))
      ]
    ]

from_north : (n x y : ℕ) → arrow_number n (next_from n x y North) / 2 ≡ after_north n x y
unfolding after_north
from_north n x y = elim (cases_Bool (nat_lt x n)) [
  | inl t ↦ rw t (plus_half (east_edge n x (y + 1)))
  | inr f ↦ elim (cases_Bool (nat_lt (y + 1) n)) [
    | inl t ↦ rw (f, t) (plus_half (north_edge n x (y + 1)))
    | inr g ↦ rw (f, g) (minus_half (east_edge n (x - 1) (y + 1)))
  ]
]

from_south : (n x y : ℕ) → y < n → arrow_number n (next_from n x (y + 1) South) / 2 ≡ after_south n x y
unfolding after_south
from_south n x y h =
    let e : y + 1 - 1 ≡ y = omega arith in
    elim (cases_Bool (nat_lt 0 x)) [
      | inl t ↦ rw (t, e) (minus_half (east_edge n (x - 1) y))
      | inr f ↦ elim (cases_Bool (nat_lt 0 y)) [
        | inl t ↦ (let t' : nat_lt 1 (y + 1) ≡ true = grind (arith, nat_tests) in rw (f, t', t, e) (minus_half (north_edge n x (y - 1))))
        | inr g ↦ (let g' : nat_lt 1 (y + 1) ≡ false = grind (arith, nat_tests) in rw (f, g', g, e) (plus_half (east_edge n x y)))
      ]
    ]

pub east_rows : EastRows
east_rows n x y le hx hy =
    let hp : has_arrow n (arrow x y East) ≡ true = grind (arith, nat_tests) in
    let hm : has_arrow n (arrow (x + 1) y West) ≡ true = grind (arith, nat_tests) in
    let e : x + 1 - 1 ≡ x = omega arith in
    let m : number_from n (x + 1) y West ≡ code 0 (east_edge n x y) 1 = ap (λ k. code 0 (east_edge n k y) 1) e in
    row_is n (east_edge n x y) (arrow x y East) (arrow (x + 1) y West) (after_east n x y) (after_west n x y)
    (arrow_of_number n (arrow x y East) hp) (ap (arrow_in n) (sym m) ∙ arrow_of_number n (arrow (x + 1) y West) hm)
    (follows n x y East le hp ∙ from_east n x y) (ap (λ k. next_in_grid n k / 2) (sym m) ∙ follows n (x + 1) y West le hm ∙ from_west n x y hx)

pub north_rows : NorthRows
north_rows n x y le hx hy =
    let hp : has_arrow n (arrow x y North) ≡ true = grind (arith, nat_tests) in
    let hm : has_arrow n (arrow x (y + 1) South) ≡ true = grind (arith, nat_tests) in
    let e : y + 1 - 1 ≡ y = omega arith in
    let m : number_from n x (y + 1) South ≡ code 0 (north_edge n x y) 1 = ap (λ k. code 0 (north_edge n x k) 1) e in
    row_is n (north_edge n x y) (arrow x y North) (arrow x (y + 1) South) (after_north n x y) (after_south n x y)
    (arrow_of_number n (arrow x y North) hp) (ap (arrow_in n) (sym m) ∙ arrow_of_number n (arrow x (y + 1) South) hm)
    (follows n x y North le hp ∙ from_north n x y) (ap (λ k. next_in_grid n k / 2) (sym m) ∙ follows n x (y + 1) South le hm ∙ from_south n x y hy)
