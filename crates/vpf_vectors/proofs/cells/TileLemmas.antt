-- Home tiles and tile lines of a grid of an even number of cells a side.
use Rattle.std.proofs.Common.{◌≡◌, ◌≢◌, ℕ, ◌+◌, ◌-◌, ◌*◌, ◌/◌, ◌%◌, ◌<◌, ◌≤◌, Bool, true, false, not, ◌==◌, refl, sym, ap, subst, ◌∙◌, inl, inr, arith}
use Rattle.std.proofs.lemmas.Bool.{cases_Bool, cases_eq}
use Rattle.std.proofs.lemmas.Bool.Decides.{nat_tests}
use Rattle.std.proofs.lemmas.Nat.{mul-add-lt, div-add-mod', div_below, mod_below}
use Rattle.vpf_vectors.specs.declared.cells.rows.EdgeRow.{EdgeRow}
use Rattle.vpf_vectors.specs.Cells.Numbers.{face_at, cell_x, cell_y}
use Rattle.vpf_vectors.specs.Cells.Rows.{cell_tile, tile_of, divides_tiles}
use Rattle.vpf_vectors.specs.Inner.Cells.Laws.{FacesHaveTiles, TilesHaveFaces, EastLines, NorthLines}
use Rattle.vpf_vectors.proofs.cells.FaceLemmas.{face-outside}
use Rattle.vpf_vectors.proofs.cells.PlaceLemmas.{cell_of, cell_given}
use Rattle.vpf_vectors.proofs.cells.CornerRowLemmas.{east_rows, north_rows}

pub faces_have_tiles : FacesHaveTiles
faces_have_tiles n f le even low high =
    let c = cell_of n f le low high in
    let m : cell_y n f / 2 * (n / 2) + cell_x n f / 2 < n / 2 * (n / 2) =
    mul-add-lt (cell_y n f / 2) (n / 2) (cell_x n f / 2) (n / 2) (omega (arith, c)) (omega (arith, c)) in
    (omega arith, omega arith)

-- the tile of a cell that the grid has
tile-is : (n x y : ℕ) → x < n → y < n → tile_of n (face_at n (x + 1) (y + 1)) ≡ cell_tile n x y
tile-is n x y hx hy = let g = cell_given n x y hx hy in ap (λ k. cell_tile n k (cell_y n (face_at n (x + 1) (y + 1)))) g.2 ∙ ap (cell_tile n x) g.3

pub tiles_have_faces : TilesHaveFaces
tiles_have_faces n t le even low high =
    let half : 1 ≤ n / 2 = omega arith in
    let a : (t - 1) % (n / 2) < n / 2 = mod_below (t - 1) (n / 2) half in
    let b : (t - 1) / (n / 2) < n / 2 = div_below (t - 1) (n / 2) (n / 2) half (omega arith) in
    let e : (t - 1) / (n / 2) * (n / 2) + (t - 1) % (n / 2) ≡ t - 1 = div-add-mod' (t - 1) (n / 2) in
    let hx : 2 * ((t - 1) % (n / 2)) < n = omega arith in
    let hy : 2 * ((t - 1) / (n / 2)) < n = omega arith in
    let g = cell_given n (2 * ((t - 1) % (n / 2))) (2 * ((t - 1) / (n / 2))) hx hy in
    let dx : 2 * ((t - 1) % (n / 2)) / 2 ≡ (t - 1) % (n / 2) = omega arith in
    let dy : 2 * ((t - 1) / (n / 2)) / 2 ≡ (t - 1) / (n / 2) = omega arith in
    let s : cell_tile n (2 * ((t - 1) % (n / 2))) (2 * ((t - 1) / (n / 2))) ≡ t =
    ap (λ k. 1 + k * (n / 2) + 2 * ((t - 1) % (n / 2)) / 2) dy ∙ ap (λ k. 1 + (t - 1) / (n / 2) * (n / 2) + k) dx ∙ omega arith in
    (face_at n (2 * ((t - 1) % (n / 2)) + 1) (2 * ((t - 1) / (n / 2)) + 1), g.0, g.1, tile-is n (2 * ((t - 1) % (n / 2))) (2 * ((t - 1) / (n / 2))) hx hy ∙ s)

at_border_right : (n f g : ℕ) → f ≡ 1 → divides_tiles n f g ≡ true
unfolding divides_tiles
at_border_right n f g e = let t : (f == 1) ≡ true = grind (arith, nat_tests) in rw t refl

at_border_left : (n f g : ℕ) → g ≡ 1 → divides_tiles n f g ≡ true
unfolding divides_tiles
at_border_left n f g e = let t : (g == 1) ≡ true = grind (arith, nat_tests) in elim (cases_Bool (f == 1)) [ inl u ↦ rw (u) refl | inr u ↦ rw (u, t) refl ]

line_between : (n f g : ℕ) → 2 ≤ f → 2 ≤ g → divides_tiles n f g ≡ not (tile_of n f == tile_of n g)
unfolding divides_tiles
line_between n f g hf hg = let t : (f == 1) ≡ false = grind (arith, nat_tests) in let u : (g == 1) ≡ false = grind (arith, nat_tests) in rw (t, u) refl

-- tiles of two cells one above the other, and side by side
tiles_above : (h x y : ℕ) → 1 ≤ h → 1 ≤ y → (1 + (y - 1) / 2 * h + x / 2 == 1 + y / 2 * h + x / 2) ≡ not (y % 2 == 0)
tiles_above h x y le low = elim (cases_Bool (y % 2 == 0)) [
  | inl t ↦ (
      let e : y % 2 ≡ 0 = grind (arith, nat_tests) in
      let d : y / 2 ≡ (y - 1) / 2 + 1 = omega arith in
      let m : y / 2 * h ≡ (y - 1) / 2 * h + h = ap (λ k. k * h) d ∙ omega arith in
      let ne : 1 + (y - 1) / 2 * h + x / 2 ≢ 1 + y / 2 * h + x / 2 = λ q. omega arith in
      rw t (grind (arith, nat_tests)))
  | inr t ↦ (
      let e : y % 2 ≢ 0 = grind (arith, nat_tests) in
      let d : y / 2 ≡ (y - 1) / 2 = omega arith in
      let q : 1 + (y - 1) / 2 * h + x / 2 ≡ 1 + y / 2 * h + x / 2 = ap (λ k. 1 + k * h + x / 2) (sym d) in
      rw t (grind (arith, nat_tests)))
]

tiles_beside : (h x y : ℕ) → 1 ≤ x → (1 + y / 2 * h + x / 2 == 1 + y / 2 * h + (x - 1) / 2) ≡ not (x % 2 == 0)
tiles_beside h x y low = elim (cases_Bool (x % 2 == 0)) [
  | inl t ↦ (
      let e : x % 2 ≡ 0 = grind (arith, nat_tests) in
      let ne : 1 + y / 2 * h + x / 2 ≢ 1 + y / 2 * h + (x - 1) / 2 = λ q. omega arith in
      rw t (grind (arith, nat_tests)))
  | inr t ↦ (
      let e : x % 2 ≢ 0 = grind (arith, nat_tests) in
      let q : 1 + y / 2 * h + x / 2 ≡ 1 + y / 2 * h + (x - 1) / 2 = omega arith in
      rw t (grind (arith, nat_tests)))
]

not_not : (b : Bool) → not (not b) ≡ b
not_not true = refl
not_not false = refl

pub east_lines : EastLines
east_lines n x y le even hx hy =
    ap (λ (r : EdgeRow). r.tile_line) (east_rows n x y le hx hy) ∙ elim (cases_eq y 0) [
      | inl z ↦ at_border_right n (face_at n (x + 1) y) (face_at n (x + 1) (y + 1)) (face-outside n (x + 1) y (grind (arith, nat_tests)))
          ∙ (let t : (y % 2 == 0) ≡ true = grind (arith, nat_tests) in sym t)
      | inr nz ↦ elim (cases_eq y n) [
        | inl z ↦ at_border_left n (face_at n (x + 1) y) (face_at n (x + 1) (y + 1)) (face-outside n (x + 1) (y + 1) (grind (arith, nat_tests)))
            ∙ (let t : (y % 2 == 0) ≡ true = grind (arith, nat_tests) in sym t)
        | inr ne ↦ (
            let ly : y - 1 < n = omega arith in
            let hy' : y < n = omega arith in
            let p : y - 1 + 1 ≡ y = omega arith in
            let a = cell_given n x (y - 1) hx ly in
            let b = cell_given n x y hx hy' in
            let fa : face_at n (x + 1) (y - 1 + 1) ≡ face_at n (x + 1) y = ap (face_at n (x + 1)) p in
            let ta : tile_of n (face_at n (x + 1) y) ≡ cell_tile n x (y - 1) = sym (ap (tile_of n) fa) ∙ tile-is n x (y - 1) hx ly in
            let tb : tile_of n (face_at n (x + 1) (y + 1)) ≡ cell_tile n x y = tile-is n x y hx hy' in
            let fa2 : 2 ≤ face_at n (x + 1) y = subst (λ k. 2 ≤ k) fa a.0 in
            line_between n (face_at n (x + 1) y) (face_at n (x + 1) (y + 1)) fa2 b.0
            ∙ ap (λ k. not (k == tile_of n (face_at n (x + 1) (y + 1)))) ta ∙ ap (λ k. not (cell_tile n x (y - 1) == k)) tb
            ∙ ap not (tiles_above (n / 2) x y (omega arith) (omega arith)) ∙ not_not (y % 2 == 0))
      ]
    ]

pub north_lines : NorthLines
north_lines n x y le even hx hy =
    ap (λ (r : EdgeRow). r.tile_line) (north_rows n x y le hx hy) ∙ elim (cases_eq x 0) [
      | inl z ↦ at_border_left n (face_at n (x + 1) (y + 1)) (face_at n x (y + 1)) (face-outside n x (y + 1) (grind (arith, nat_tests)))
          ∙ (let t : (x % 2 == 0) ≡ true = grind (arith, nat_tests) in sym t)
      | inr nz ↦ elim (cases_eq x n) [
        | inl z ↦ at_border_right n (face_at n (x + 1) (y + 1)) (face_at n x (y + 1)) (face-outside n (x + 1) (y + 1) (grind (arith, nat_tests)))
            ∙ (let t : (x % 2 == 0) ≡ true = grind (arith, nat_tests) in sym t)
        | inr ne ↦ (
            let lx : x - 1 < n = omega arith in
            let hx' : x < n = omega arith in
            let p : x - 1 + 1 ≡ x = omega arith in
            let a = cell_given n (x - 1) y lx hy in
            let b = cell_given n x y hx' hy in
            let fa : face_at n (x - 1 + 1) (y + 1) ≡ face_at n x (y + 1) = ap (λ k. face_at n k (y + 1)) p in
            let ta : tile_of n (face_at n x (y + 1)) ≡ cell_tile n (x - 1) y = sym (ap (tile_of n) fa) ∙ tile-is n (x - 1) y lx hy in
            let tb : tile_of n (face_at n (x + 1) (y + 1)) ≡ cell_tile n x y = tile-is n x y hx' hy in
            let fa2 : 2 ≤ face_at n x (y + 1) = subst (λ k. 2 ≤ k) fa a.0 in
            line_between n (face_at n (x + 1) (y + 1)) (face_at n x (y + 1)) b.0 fa2
            ∙ ap (λ k. not (k == tile_of n (face_at n x (y + 1)))) tb ∙ ap (λ k. not (cell_tile n x y == k)) ta
            ∙ ap not (tiles_beside (n / 2) x y (omega arith))
            ∙ not_not (x % 2 == 0))
      ]
    ]
