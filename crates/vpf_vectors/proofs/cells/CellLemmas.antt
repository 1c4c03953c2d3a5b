-- The darts of a cell are one cycle of next.
use Rattle.std.proofs.Common.{◌≡◌, ℕ, ◌+◌, ◌-◌, ◌*◌, ◌<◌, ◌≤◌, Bool, true, ◌&&◌, ◌==◌, if◌then◌else◌, [], ◌∷◌, refl, sym, ap, ◌∙◌, inl, inr, arith}
use Rattle.std.proofs.lemmas.Bool.{cases_Bool}
use Rattle.std.proofs.lemmas.Bool.Decides.{nat_tests}
use Rattle.std.proofs.lemmas.Nat.{same_from_place}
use Rattle.vpf_darts.specs.Cycles.{IsCycle}
use Rattle.vpf_vectors.specs.Cells.Corners.{Way, East, North, West, South, Arrow, has_arrow, next_arrow, beside_x, beside_y}
use Rattle.vpf_vectors.specs.Cells.Numbers.{has_cell, face_at, arrow_face, number_from, arrow_number, arrow_in}
use Rattle.vpf_vectors.specs.Cells.Maps.{has_dart, next_in_grid, face_in, IsOneCycle, cell_darts}
use Rattle.vpf_vectors.proofs.cells.ArrowLemmas.{arrow}
use Rattle.vpf_vectors.proofs.cells.NumberLemmas.{number_has, arrow_has, arrow_of_number, number_of_arrow}
use Rattle.vpf_vectors.proofs.cells.FaceLemmas.{face-outside}
use Rattle.vpf_vectors.proofs.cells.NodeLemmas.{next_of_number}
use Rattle.vpf_vectors.proofs.cells.CycleLemmas.{count_picked, picked_by, count_way}

-- the sides of the cell with the lower corner (x, y)
abbrev pub side_x : Way → ℕ → ℕ
side_x East x = x
side_x North x = x
side_x West x = x + 1
side_x South x = x + 1

abbrev pub side_y : Way → ℕ → ℕ
side_y East y = y + 1
side_y North y = y
side_y West y = y
side_y South y = y + 1

abbrev pub side : ℕ → ℕ → ℕ → Way → ℕ
side n x y w = number_from n (side_x w x) (side_y w y) w

pub side_has : (n x y : ℕ) (w : Way) → x < n → y < n → has_arrow n (arrow (side_x w x) (side_y w y) w) ≡ true
side_has n x y East hx hy = grind (arith, nat_tests)
side_has n x y North hx hy = grind (arith, nat_tests)
side_has n x y West hx hy = grind (arith, nat_tests)
side_has n x y South hx hy = grind (arith, nat_tests)

pub side_right : (x y : ℕ) (w : Way) → (beside_x w (side_x w x) ≡ x + 1) × (beside_y w (side_y w y) ≡ y + 1)
side_right x y East = (refl, refl)
side_right x y North = (refl, refl)
side_right x y West = (refl, refl)
side_right x y South = (refl, refl)

pub side_from : (x y u v : ℕ) (w : Way) → beside_x w u ≡ x + 1 → beside_y w v ≡ y + 1 → (u ≡ side_x w x) × (v ≡ side_y w y)
side_from x y u v East e f = (omega arith, omega arith)
side_from x y u v North e f = (omega arith, omega arith)
side_from x y u v West e f = (omega arith, omega arith)
side_from x y u v South e f = (omega arith, omega arith)

pub face-inside : (n x y : ℕ) → x < n → y < n → face_at n (x + 1) (y + 1) ≡ 2 + y * n + x
unfolding face_at
face-inside n x y hx hy =
    let t : has_cell n (x + 1) (y + 1) ≡ true = grind (arith, nat_tests) in
    rw t (let e : y + 1 - 1 ≡ y = omega arith in let f : x + 1 - 1 ≡ x = omega arith in rw (e, f) refl)

-- the number of a face names its cell
pub same_cell : (n x y u v : ℕ) → x < n → y < n → face_at n u v ≡ face_at n (x + 1) (y + 1) → (u ≡ x + 1) × (v ≡ y + 1)
same_cell n x y u v hx hy e =
    let i = face-inside n x y hx hy in
    elim (cases_Bool (has_cell n u v)) [
      | inl t ↦ (
          let b : (1 ≤ u) × (u ≤ n) × (1 ≤ v) × (v ≤ n) = grind (arith, nat_tests) in
          let pu : u ≡ (u - 1) + 1 = omega (arith, b) in
          let pv : v ≡ (v - 1) + 1 = omega (arith, b) in
          let lu : u - 1 < n = omega (arith, b) in
          let lv : v - 1 < n = omega (arith, b) in
          let j : face_at n u v ≡ 2 + (v - 1) * n + (u - 1) =
          ap (λ k. face_at n k v) pu ∙ ap (face_at n ((u - 1) + 1)) pv ∙ face-inside n (u - 1) (v - 1) lu lv in
          let s = same_from_place (v - 1) (u - 1) y x n lu hx (omega arith) in
          (omega (arith, s, b), omega (arith, s, b)))
      | inr f ↦ (let j = face-outside n u v f in absurd (omega arith))
    ]

next-west : (n x y : ℕ) → x < n → y < n → next_arrow n (arrow (x + 1) y West) ≡ arrow x y North
next-west n x y hx hy = grind (arith, nat_tests)

next-north : (n x y : ℕ) → x < n → y < n → next_arrow n (arrow x y North) ≡ arrow x (y + 1) East
next-north n x y hx hy = grind (arith, nat_tests)

next-east : (n x y : ℕ) → x < n → y < n → next_arrow n (arrow x (y + 1) East) ≡ arrow (x + 1) (y + 1) South
next-east n x y hx hy = grind (arith, nat_tests)

next-south : (n x y : ℕ) → x < n → y < n → next_arrow n (arrow (x + 1) (y + 1) South) ≡ arrow (x + 1) y West
next-south n x y hx hy = grind (arith, nat_tests)

pub cell_cycle : (n x y : ℕ) → x < n → y < n → IsCycle (next_in_grid n) (cell_darts n x y)
cell_cycle n x y hx hy =
    let a : next_in_grid n (number_from n (x + 1) y West) ≡ number_from n x y North =
    next_of_number n (arrow (x + 1) y West) (side_has n x y West hx hy) ∙ ap (arrow_number n) (next-west n x y hx hy) in
    let b : next_in_grid n (number_from n x y North) ≡ number_from n x (y + 1) East =
    next_of_number n (arrow x y North) (side_has n x y North hx hy) ∙ ap (arrow_number n) (next-north n x y hx hy) in
    let c : next_in_grid n (number_from n x (y + 1) East) ≡ number_from n (x + 1) (y + 1) South =
    next_of_number n (arrow x (y + 1) East) (side_has n x y East hx hy) ∙ ap (arrow_number n) (next-east n x y hx hy) in
    let d : next_in_grid n (number_from n (x + 1) (y + 1) South) ≡ number_from n (x + 1) y West =
    next_of_number n (arrow (x + 1) (y + 1) South) (side_has n x y South hx hy) ∙ ap (arrow_number n) (next-south n x y hx hy) in
    ap (λ k. k ∷ next_in_grid n (number_from n x y North) ∷ next_in_grid n (number_from n x (y + 1) East) ∷ next_in_grid n (number_from n (x + 1) (y + 1) South) ∷ []) a
    ∙ ap (λ k. number_from n x y North ∷ k ∷ next_in_grid n (number_from n x (y + 1) East) ∷ next_in_grid n (number_from n (x + 1) (y + 1) South) ∷ []) b
    ∙ ap (λ k. number_from n x y North ∷ number_from n x (y + 1) East ∷ k ∷ next_in_grid n (number_from n (x + 1) (y + 1) South) ∷ []) c
    ∙ ap (λ k. number_from n x y North ∷ number_from n x (y + 1) East ∷ number_from n (x + 1) (y + 1) South ∷ k ∷ []) d

-- whether a dart has a face
abbrev pub bounds : ℕ → ℕ → ℕ → Bool
bounds n face d = has_dart n d && (face_in n d == face)

pub bounds_parts : (n face d : ℕ) → bounds n face d ≡ true → (has_dart n d ≡ true) × (face_in n d ≡ face)
bounds_parts n face d h = grind (arith, nat_tests)

pub bounds_from : (n face d : ℕ) → has_dart n d ≡ true → face_in n d ≡ face → bounds n face d ≡ true
bounds_from n face d h e = grind (arith, nat_tests)

along : (v : Way) → count_way v (West ∷ North ∷ East ∷ South ∷ []) ≡ 1
along East = refl
along North = refl
along West = refl
along South = refl

abbrev every : Way → Bool
every w = true

pub cell_is_one_cycle : (n x y : ℕ) → x < n → y < n → IsOneCycle (next_in_grid n) (bounds n (face_at n (x + 1) (y + 1))) (cell_darts n x y)
cell_is_one_cycle n x y hx hy = record {
  cycle = cell_cycle n x y hx hy;
  once = λ d. (
      let f : ℕ = face_at n (x + 1) (y + 1) in
      let v : Way = (arrow_in n d).way in
      let le : 1 ≤ n = omega arith in
      let here : bounds n (face_at n (x + 1) (y + 1)) d ≡ true → (every (arrow_in n d).way ≡ true) × (side n x y (arrow_in n d).way ≡ d) = λ l. (
      let q = bounds_parts n (face_at n (x + 1) (y + 1)) d l in
      let a = arrow_has n d le q.0 in
      let c = same_cell n x y (beside_x (arrow_in n d).way (arrow_in n d).x) (beside_y (arrow_in n d).way (arrow_in n d).y) hx hy q.1 in
      let s = side_from x y (arrow_in n d).x (arrow_in n d).y (arrow_in n d).way c.0 c.1 in
      let e : number_from n (arrow_in n d).x (arrow_in n d).y (arrow_in n d).way ≡ side n x y (arrow_in n d).way =
      ap (λ k. number_from n k (arrow_in n d).y (arrow_in n d).way) s.0 ∙ ap (λ k. number_from n (side_x (arrow_in n d).way x) k (arrow_in n d).way) s.1 in
      (refl, sym e ∙ number_of_arrow n d le q.0)) in
      let only : (w : Way) → every w ≡ true → side n x y w ≡ d → (bounds n (face_at n (x + 1) (y + 1)) d ≡ true) × (w ≡ (arrow_in n d).way) = λ w t e. (
      let h = side_has n x y w hx hy in
      let a : arrow_in n d ≡ arrow (side_x w x) (side_y w y) w = ap (arrow_in n) (sym e) ∙ arrow_of_number n (arrow (side_x w x) (side_y w y) w) h in
      let r = side_right x y w in
      let g : face_at n (beside_x w (side_x w x)) (beside_y w (side_y w y)) ≡ face_at n (x + 1) (y + 1) =
      ap (λ k. face_at n k (beside_y w (side_y w y))) r.0 ∙ ap (face_at n (x + 1)) r.1 in (
        bounds_from n (face_at n (x + 1) (y + 1)) d (ap (has_dart n) (sym e) ∙ number_has n (arrow (side_x w x) (side_y w y) w) h) (ap (arrow_face n) a ∙ g),
        sym (ap (λ (b : Arrow). b.way) a),
      )) in
      count_picked every (side n x y) d (bounds n (face_at n (x + 1) (y + 1)) d) (arrow_in n d).way
      (picked_by every (side n x y) d (bounds n (face_at n (x + 1) (y + 1)) d) (arrow_in n d).way here only) (West ∷ North ∷ East ∷ South ∷ [])
      ∙ ap (λ k. if bounds n (face_at n (x + 1) (y + 1)) d then k else 0) (along (arrow_in n d).way));
}
