-- The numbers of corners and cells, and back.
use Rattle.std.proofs.Common.{◌≡◌, ℕ, ◌+◌, ◌-◌, ◌*◌, ◌/◌, ◌%◌, ◌<◌, ◌≤◌, ap, ◌∙◌, inl, inr, arith}
use Rattle.std.proofs.lemmas.Bool.{cases_Bool}
use Rattle.std.proofs.lemmas.Bool.Decides.{nat_tests}
use Rattle.std.proofs.lemmas.Nat.{mul-add-lt, div-add-mod', div_below, mod_below, div-mul-add, mod-mul-add}
use Rattle.vpf_vectors.specs.Cells.Numbers.{nodes, faces, node_of, node_x, node_y, has_cell, face_at, cell_x, cell_y}
use Rattle.vpf_vectors.proofs.cells.CellLemmas.{face-inside}

-- nodes and corners
pub node_in_range : (n x y : ℕ) → x ≤ n → y ≤ n → (1 ≤ node_of n x y) × (node_of n x y ≤ nodes n)
unfolding node_of nodes
node_in_range n x y hx hy =
    let m : y * (n + 1) + x < (n + 1) * (n + 1) = mul-add-lt y (n + 1) x (n + 1) (omega arith) (omega arith) in
    (omega arith, omega arith)

pub corner_of : (n k : ℕ) → 1 ≤ k → k ≤ nodes n → (node_x n k ≤ n) × (node_y n k ≤ n) × (node_of n (node_x n k) (node_y n k) ≡ k)
unfolding node_of node_x node_y nodes
corner_of n k low high =
    let a : (k - 1) % (n + 1) < n + 1 = mod_below (k - 1) (n + 1) (omega arith) in
    let b : (k - 1) / (n + 1) < n + 1 = div_below (k - 1) (n + 1) (n + 1) (omega arith) (omega arith) in
    let e : (k - 1) / (n + 1) * (n + 1) + (k - 1) % (n + 1) ≡ k - 1 = div-add-mod' (k - 1) (n + 1) in
    (omega arith, omega arith, omega arith)

-- faces and cells
pub face_in_range : (n x y : ℕ) → (1 ≤ face_at n x y) × (face_at n x y ≤ faces n)
unfolding face_at faces
face_in_range n x y = elim (cases_Bool (has_cell n x y)) [
  | inl t ↦ (
      let b : (1 ≤ x) × (x ≤ n) × (1 ≤ y) × (y ≤ n) = grind (arith, nat_tests) in
      let m : (y - 1) * n + (x - 1) < n * n = mul-add-lt (y - 1) n (x - 1) n (omega (arith, b)) (omega (arith, b)) in
      rw t (omega arith, omega arith))
  | inr f ↦ rw f (omega arith, omega arith)
]

pub cell_of : (n f : ℕ) → 1 ≤ n → 2 ≤ f → f ≤ faces n → (cell_x n f < n) × (cell_y n f < n) × (face_at n (cell_x n f + 1) (cell_y n f + 1) ≡ f)
unfolding faces cell_x cell_y
cell_of n f le low high =
    let a : (f - 2) % n < n = mod_below (f - 2) n le in
    let b : (f - 2) / n < n = div_below (f - 2) n n le (omega arith) in
    let e : (f - 2) / n * n + (f - 2) % n ≡ f - 2 = div-add-mod' (f - 2) n in
    (a, b, face-inside n ((f - 2) % n) ((f - 2) / n) a b ∙ omega arith)

pub corner_given : (n x y : ℕ) → x ≤ n → y ≤ n
    → (1 ≤ node_of n x y) × (node_of n x y ≤ nodes n) × (node_x n (node_of n x y) ≡ x) × (node_y n (node_of n x y) ≡ y)
unfolding node_of node_x node_y
corner_given n x y hx hy =
    let r = node_in_range n x y hx hy in
    let e : y * (n + 1) + x + 1 - 1 ≡ y * (n + 1) + x = omega arith in
    (r.0, r.1, ap (λ k. k % (n + 1)) e ∙ mod-mul-add y (n + 1) x (omega arith), ap (λ k. k / (n + 1)) e ∙ div-mul-add y (n + 1) x (omega arith))

pub cell_given : (n x y : ℕ) → x < n → y < n
    → (2 ≤ face_at n (x + 1) (y + 1)) × (face_at n (x + 1) (y + 1) ≤ faces n) × (cell_x n (face_at n (x + 1) (y + 1)) ≡ x)
    × (cell_y n (face_at n (x + 1) (y + 1)) ≡ y)
unfolding cell_x cell_y
cell_given n x y hx hy =
    let r = face_in_range n (x + 1) (y + 1) in
    let i = face-inside n x y hx hy in
    let e : face_at n (x + 1) (y + 1) - 2 ≡ y * n + x = omega (arith, i) in
    (omega (arith, i), r.1, ap (λ k. k % n) e ∙ mod-mul-add y n x hx, ap (λ k. k / n) e ∙ div-mul-add y n x hx)
