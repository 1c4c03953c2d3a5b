-- Each face of the grid has one cycle, whose least dart starts its ring; each node has a least edge.
use Rattle.std.proofs.Common.{◌≡◌, ℕ, suc, ◌+◌, ◌-◌, ◌*◌, ◌/◌, ◌<◌, ◌≤◌, true, false, ◌==◌}
use Rattle.std.proofs.Common.{if◌then◌else◌, List, map, refl, sym, ap, subst, ◌∙◌, inl, inr, arith}
use Rattle.std.proofs.lemmas.Bool.{cases_Bool, cases_eq}
use Rattle.std.proofs.lemmas.Bool.Decides.{nat_tests}
use Rattle.std.proofs.lemmas.Nat.{mul-add-lt, mul-le}
use Rattle.std.specs.List.{range_with_len}
use Rattle.vpf_darts.specs.Cycles.{first_of}
use Rattle.vpf_darts.specs.Darts.{code}
use Rattle.vpf_vectors.specs.Cells.Corners.{Way, East, North, West, South, Arrow, has_arrow, beside_x, beside_y}
use Rattle.vpf_vectors.specs.Cells.Numbers.{faces, node_of, node_x, node_y, arrow_number, number_from, arrow_in, face_at, cell_x, cell_y, east_edge, north_edge}
use Rattle.vpf_vectors.specs.Cells.Maps.{has_dart, next_in_grid, tail_in, face_in, IsOneCycle, cell_darts, border_darts, border_dart}
use Rattle.vpf_vectors.specs.Cells.Rows.{start_dart, start_edge, first_edge, face_darts}
use Rattle.vpf_vectors.proofs.cells.ArrowLemmas.{arrow, has_parts}
use Rattle.vpf_vectors.proofs.cells.NumberLemmas.{number_has, arrow_has, arrow_of_number, number_of_arrow}
use Rattle.vpf_vectors.proofs.cells.FaceLemmas.{same_corner}
use Rattle.vpf_vectors.proofs.cells.CellLemmas.{bounds, cell_is_one_cycle, side_has, side_right, same_cell, side_from, side, side_x, face-inside}
use Rattle.vpf_vectors.proofs.cells.BorderLemmas.{border_is_one_cycle, border_has, border_outside, below}
use Rattle.vpf_vectors.proofs.cells.PlaceLemmas.{cell_of, cell_given}

-- the one cycle of a face, and its least dart
pub record HasCycle (n face : ℕ) : Type 0 where
  pub darts : List ℕ
  pub one : IsOneCycle (next_in_grid n) (bounds n face) darts
  pub start : ℕ
  pub there : has_dart n start ≡ true
  pub of_face : face_in n start ≡ face
  pub of_edge : start / 2 ≡ start_edge face
  pub number : start ≡ start_dart face
  pub first : first_of darts ≡ start
  pub along : darts ≡ face_darts n face
  pub least : (d : ℕ) → has_dart n d ≡ true → face_in n d ≡ face → start ≤ d

start_one : (n : ℕ) → number_from n 0 0 East / 2 ≡ start_edge 1
unfolding code east_edge start_edge
start_one n = omega arith

number_one : (n : ℕ) → number_from n 0 0 East ≡ start_dart 1
unfolding code east_edge start_dart
number_one n = omega arith

first_one : (n : ℕ) → 1 ≤ n → first_of (border_darts n) ≡ border_dart n 0
first_one n le = let k : suc (4 * n - 1) ≡ 4 * n = omega arith in subst (λ k. first_of (map (border_dart n) (range_with_len 0 k)) ≡ border_dart n 0) k refl

least_one : (n d : ℕ) → has_dart n d ≡ true → number_from n 0 0 East ≤ d
unfolding code east_edge
least_one n d h = let b : 2 ≤ d = grind (arith, nat_tests) in omega arith

pub universe_has_cycle : (n : ℕ) → 1 ≤ n → HasCycle n 1
universe_has_cycle n le =
    let e = below n 0 le in
    let h : has_arrow n (arrow 0 0 East) ≡ true = sym (ap (has_arrow n) e) ∙ border_has n 0 (omega arith) in
    record {
      darts = border_darts n;
      one = border_is_one_cycle n le;
      start = number_from n 0 0 East;
      there = number_has n (arrow 0 0 East) h;
      of_face = ap (λ (a : Arrow). face_at n (beside_x a.way a.x) (beside_y a.way a.y)) (arrow_of_number n (arrow 0 0 East) h ∙ sym e)
          ∙ border_outside n 0 (omega arith);
      of_edge = start_one n;
      number = number_one n;
      first = first_one n le ∙ ap (arrow_number n) e;
      along = refl;
      least = λ d hd f. least_one n d hd;
    }

-- among the sides of a cell the one to the west has the least number
start_cell : (n x y : ℕ) → number_from n (x + 1) y West / 2 ≡ start_edge (2 + y * n + x)
unfolding code east_edge start_edge
start_cell n x y =
    let f : (2 + y * n + x == 1) ≡ false = grind (arith, nat_tests) in
    let e : x + 1 - 1 ≡ x = omega arith in
    rw (f, e) (omega arith)

number_cell : (n x y : ℕ) → number_from n (x + 1) y West ≡ start_dart (2 + y * n + x)
unfolding code east_edge start_dart
number_cell n x y =
    let f : (2 + y * n + x == 1) ≡ false = grind (arith, nat_tests) in
    let e : x + 1 - 1 ≡ x = omega arith in
    rw (f, e) (omega arith)

least_side : (n x y : ℕ) (w : Way) → x < n → y < n → number_from n (x + 1) y West ≤ side n x y w
unfolding code east_edge north_edge
least_side n x y East hx hy = let e : x + 1 - 1 ≡ x = omega arith in rw e (omega arith)
least_side n x y North hx hy = let e : x + 1 - 1 ≡ x = omega arith in let m : y * n + x < n * n = mul-add-lt y n x n hy hx in rw e (omega arith)
least_side n x y West hx hy = omega arith
least_side n x y South hx hy =
    let e : x + 1 - 1 ≡ x = omega arith in
    let f : y + 1 - 1 ≡ y = omega arith in
    let m : y * n + x < n * n = mul-add-lt y n x n hy hx in
    rw (e, f) (omega arith)

not_one : (f : ℕ) → 2 ≤ f → (f == 1) ≡ false
not_one f h = grind (arith, nat_tests)

cell_darts_along : (n x y : ℕ) → x < n → y < n → face_darts n (face_at n (x + 1) (y + 1)) ≡ cell_darts n x y
cell_darts_along n x y hx hy =
    let g = cell_given n x y hx hy in
    let t : (face_at n (x + 1) (y + 1) == 1) ≡ false = not_one (face_at n (x + 1) (y + 1)) g.0 in
    let e : face_darts n (face_at n (x + 1) (y + 1)) ≡ cell_darts n (cell_x n (face_at n (x + 1) (y + 1))) (cell_y n (face_at n (x + 1) (y + 1))) = rw t refl in
    e ∙ ap (λ k. cell_darts n k (cell_y n (face_at n (x + 1) (y + 1)))) g.2 ∙ ap (cell_darts n x) g.3

pub cell_has_cycle : (n x y : ℕ) → x < n → y < n → HasCycle n (face_at n (x + 1) (y + 1))
cell_has_cycle n x y hx hy =
    let h = side_has n x y West hx hy in
    let r = side_right x y West in
    record {
      darts = cell_darts n x y;
      one = cell_is_one_cycle n x y hx hy;
      start = number_from n (x + 1) y West;
      there = number_has n (arrow (x + 1) y West) h;
      of_face = ap (λ (a : Arrow). face_at n (beside_x a.way a.x) (beside_y a.way a.y)) (arrow_of_number n (arrow (x + 1) y West) h);
      of_edge = start_cell n x y ∙ ap start_edge (sym (face-inside n x y hx hy));
      number = number_cell n x y ∙ ap start_dart (sym (face-inside n x y hx hy));
      first = refl;
      along = sym (cell_darts_along n x y hx hy);
      least = λ d hd f. (
          let le : 1 ≤ n = omega arith in
          let c = same_cell n x y (beside_x (arrow_in n d).way (arrow_in n d).x) (beside_y (arrow_in n d).way (arrow_in n d).y) hx hy f in
          let s = side_from x y (arrow_in n d).x (arrow_in n d).y (arrow_in n d).way c.0 c.1 in
          let e : number_from n (arrow_in n d).x (arrow_in n d).y (arrow_in n d).way ≡ side n x y (arrow_in n d).way =
          ap (λ k. number_from n k (arrow_in n d).y (arrow_in n d).way) s.0
          ∙ ap (λ k. number_from n (side_x (arrow_in n d).way x) k (arrow_in n d).way) s.1 in
          subst (λ k. number_from n (x + 1) y West ≤ k) (sym e ∙ number_of_arrow n d le hd) (least_side n x y (arrow_in n d).way hx hy));
    }

pub face_has_cycle : (n f : ℕ) → 1 ≤ n → 1 ≤ f → f ≤ faces n → HasCycle n f
face_has_cycle n f le low high = elim (cases_eq f 1) [
  | inl e ↦ subst (HasCycle n) (sym e) (universe_has_cycle n le)
  | inr ne ↦ (let c = cell_of n f le (omega arith) high in subst (HasCycle n) c.2 (cell_has_cycle n (cell_x n f) (cell_y n f) c.0 c.1))
]

-- the least edge at a corner
abbrev pub least_edge : ℕ → ℕ → ℕ → ℕ
least_edge n x y = if x == 0 then y * n + 1 else y * n + x

first_edge-is : (n k : ℕ) → first_edge n k ≡ least_edge n (node_x n k) (node_y n k)
first_edge-is n k = refl

-- it is the edge of a dart that leaves the corner
abbrev pub least_way : ℕ → Way
least_way x = if x == 0 then East else West

least_way-edge : (n x y : ℕ) → 1 ≤ n → x ≤ n → y ≤ n → (has_arrow n (arrow x y (least_way x)) ≡ true) × (number_from n x y (least_way x) / 2 ≡ least_edge n x y)
unfolding code east_edge
least_way-edge n x y le hx hy = elim (cases_Bool (x == 0)) [
  | inl t ↦ (let e : x ≡ 0 = grind (arith, nat_tests) in rw t (grind (arith, nat_tests), omega arith))
  | inr f ↦ (let e : 1 ≤ x = grind (arith, nat_tests) in rw f (grind (arith, nat_tests), omega arith))
]

least_of : (n x y : ℕ) (w : Way) → 1 ≤ n → has_arrow n (arrow x y w) ≡ true → least_edge n x y ≤ number_from n x y w / 2
unfolding code east_edge north_edge
least_of n x y East le h = elim (cases_Bool (x == 0)) [ inl t ↦ rw t (omega arith) | inr f ↦ rw f (omega arith) ]
least_of n x y North le h =
    let b : (x ≤ n) × (y < n) = grind (arith, nat_tests) in
    let m : y * n ≤ n * n = mul-le y n n n (omega (arith, b)) (omega arith) in
    elim (cases_Bool (x == 0)) [ inl t ↦ rw t (omega arith) | inr f ↦ rw f (omega (arith, b)) ]
least_of n x y West le h = let b : 1 ≤ x = grind (arith, nat_tests) in let f : (x == 0) ≡ false = grind (arith, nat_tests) in rw f (omega arith)
least_of n x y South le h =
    let b : (x ≤ n) × (1 ≤ y) × (y ≤ n) = grind (arith, nat_tests) in
    let m : y * n ≤ n * n = mul-le y n n n (omega (arith, b)) (omega arith) in
    elim (cases_Bool (x == 0)) [ inl t ↦ rw t (omega (arith, b)) | inr f ↦ rw f (omega (arith, b)) ]

-- a dart of the first edge leaves the node, and no edge of a dart that leaves it is less
pub record HasFirst (n node : ℕ) : Type 0 where
  pub dart : ℕ
  pub there : has_dart n dart ≡ true
  pub leaves : tail_in n dart ≡ node
  pub of_edge : dart / 2 ≡ first_edge n node
  pub least : (d : ℕ) → has_dart n d ≡ true → tail_in n d ≡ node → first_edge n node ≤ d / 2

pub node_has_first : (n k : ℕ) → 1 ≤ n → node_x n k ≤ n → node_y n k ≤ n → node_of n (node_x n k) (node_y n k) ≡ k → HasFirst n k
node_has_first n k le hx hy e =
    let w : Way = least_way (node_x n k) in
    let p = least_way-edge n (node_x n k) (node_y n k) le hx hy in
    record {
      dart = number_from n (node_x n k) (node_y n k) (least_way (node_x n k));
      there = number_has n (arrow (node_x n k) (node_y n k) (least_way (node_x n k))) p.0;
      leaves = ap (λ (a : Arrow). node_of n a.x a.y) (arrow_of_number n (arrow (node_x n k) (node_y n k) (least_way (node_x n k))) p.0) ∙ e;
      of_edge = p.1 ∙ sym (first_edge-is n k);
      least = λ d hd t. (
          let a = arrow_has n d le hd in
          let parts = has_parts n (arrow_in n d).x (arrow_in n d).y (arrow_in n d).way a in
          let c = same_corner n (arrow_in n d).x (arrow_in n d).y (node_x n k) (node_y n k) parts.0 hx (t ∙ sym e) in
          let q = least_of n (arrow_in n d).x (arrow_in n d).y (arrow_in n d).way le a in
          let l : first_edge n k ≡ least_edge n (arrow_in n d).x (arrow_in n d).y =
          first_edge-is n k ∙ ap (λ i. least_edge n i (node_y n k)) (sym c.0) ∙ ap (least_edge n (arrow_in n d).x) (sym c.1) in
          let m : number_from n (arrow_in n d).x (arrow_in n d).y (arrow_in n d).way ≡ d = number_of_arrow n d le hd in
          subst (λ i. first_edge n k ≤ i / 2) m (subst (λ i. i ≤ number_from n (arrow_in n d).x (arrow_in n d).y (arrow_in n d).way / 2) (sym l) q));
    }
