-- Arithmetic and lists of the code.
use Rattle.std.proofs.Common.{◌≡◌, ℕ, ◌+◌, ◌-◌, ◌*◌, zero, suc, ◌/◌, ◌%◌, ◌<◌, ◌≤◌, List, [], ◌∷◌, ◌++◌, map, sym, ap, ◌∙◌, arith}
use Rattle.std.specs.List.{range_with_len}
use Rattle.std.proofs.lemmas.Nat.{mul-le, div-add-mod'}
use Rattle.std.proofs.lemmas.List.FromFn.{map-range_with_len_more}
use Rattle.vpf_vectors.specs.Cells.Numbers.{nodes, edges, faces, east_edge, north_edge, face_at}
use Rattle.vpf_vectors.specs.Cells.Rows.{row_of_edge, east_row, north_row}
use Rattle.vpf_vectors.proofs.cells.PlaceLemmas.{face_in_range}
use Rattle.vpf_vectors.proofs.cells.CornerRowLemmas.{east_rows, north_rows}

pub small_product : (a b : ℕ) → a ≤ 201 → b ≤ 201 → a * b ≤ 40401
small_product a b ha hb = mul-le a b 201 201 ha hb

-- the row of a place times a number no larger than a row is no larger than the place
quotient : (k n m : ℕ) → m ≤ n → k / n * m ≤ k
quotient k n m h = let e : k / n * n + k % n ≡ k = div-add-mod' k n in let l : k / n * m ≤ k / n * n = mul-le (k / n) m (k / n) n (omega arith) h in omega arith

-- the faces and the homes of faces are few
pub small_face : (n f : ℕ) → n ≤ 200 → f ≤ faces n → f ≤ 40001
unfolding faces
small_face n f most h = let l : n * n ≤ 200 * 200 = mul-le n n 200 200 most most in omega arith

pub small_tile : (n f : ℕ) → n ≤ 200 → f ≤ faces n → (f - 2) / n / 2 * (n / 2) ≤ 40001
small_tile n f most h =
    let k : f ≤ 40001 = small_face n f most h in
    let l : (f - 2) / n * n ≤ f - 2 = quotient (f - 2) n n (omega arith) in
    let m : (f - 2) / n / 2 * (n / 2) ≤ (f - 2) / n * n = mul-le ((f - 2) / n / 2) (n / 2) ((f - 2) / n) n (omega arith) (omega arith) in
    omega arith

pub face_least : (n x y : ℕ) → 1 ≤ face_at n x y
face_least n x y = (face_in_range n x y).0

pub face_most : (n x y : ℕ) → face_at n x y ≤ faces n
face_most n x y = (face_in_range n x y).1

-- and so are the nodes, and the edges below them
pub small_first : (n k : ℕ) → n ≤ 200 → k ≤ nodes n → (k - 1) / (n + 1) * n ≤ 40401
unfolding nodes
small_first n k most h =
    let l : (k - 1) / (n + 1) * n ≤ k - 1 = quotient (k - 1) (n + 1) n (omega arith) in
    let m : (n + 1) * (n + 1) ≤ 201 * 201 = mul-le (n + 1) (n + 1) 201 201 (omega arith) (omega arith) in
    omega arith

-- one more row
pub more_east : (n x y : ℕ) → x < n → y ≤ n
    → map (row_of_edge n) (range_with_len 1 (y * n + x)) ++ east_row n x y ∷ [] ≡ map (row_of_edge n) (range_with_len 1 (y * n + (x + 1)))
unfolding east_edge
more_east n x y hx hy =
    let a : 1 + (y * n + x) ≡ y * n + x + 1 = omega arith in
    let b : y * n + (x + 1) ≡ y * n + x + 1 = omega arith in
    ap (λ r. map (row_of_edge n) (range_with_len 1 (y * n + x)) ++ r ∷ []) (sym (east_rows n x y (omega arith) hx hy))
    ∙ sym (map-range_with_len_more (row_of_edge n) 1 (y * n + x) (y * n + x + 1) a) ∙ ap (λ k. map (row_of_edge n) (range_with_len 1 k)) (sym b)

pub more_north : (n x y : ℕ) → x ≤ n → y < n
    → map (row_of_edge n) (range_with_len 1 (n * (n + 1) + x * n + y)) ++ north_row n x y ∷ [] ≡ map (row_of_edge n)
    (range_with_len 1 (n * (n + 1) + x * n + (y + 1)))
unfolding north_edge
more_north n x y hx hy =
    let a : 1 + (n * (n + 1) + x * n + y) ≡ n * (n + 1) + x * n + y + 1 = omega arith in
    let b : n * (n + 1) + x * n + (y + 1) ≡ n * (n + 1) + x * n + y + 1 = omega arith in
    ap (λ r. map (row_of_edge n) (range_with_len 1 (n * (n + 1) + x * n + y)) ++ r ∷ []) (sym (north_rows n x y (omega arith) hx hy))
    ∙ sym (map-range_with_len_more (row_of_edge n) 1 (n * (n + 1) + x * n + y) (n * (n + 1) + x * n + y + 1) a)
    ∙ ap (λ k. map (row_of_edge n) (range_with_len 1 k)) (sym b)

-- one more of what numbers give
pub put : {X : Type 0} (f : ℕ → X) (a k : ℕ) (old new : List X) (r : X) → a ≤ k → new ≡ old ++ r ∷ [] → old ≡ map f (range_with_len a (k - a)) → r ≡ f k
    → new ≡ map f (range_with_len a (k + 1 - a))
put f a k old new r h add before is =
    let e : a + (k - a) ≡ k = omega arith in
    let g : k - a + 1 ≡ k + 1 - a = omega arith in
    add ∙ ap (λ xs. xs ++ r ∷ []) before ∙ ap (λ x. map f (range_with_len a (k - a)) ++ x ∷ []) is ∙ sym (map-range_with_len_more f a (k - a) k e)
    ∙ ap (λ j. map f (range_with_len a j)) g

more_numbers : (a k : ℕ) → range_with_len a k ++ (a + k) ∷ [] ≡ range_with_len a (suc k)
more_numbers a zero = let e : a + 0 ≡ a = omega arith in ap (λ j. j ∷ []) e
more_numbers a (suc k) =
    let e : a + suc k ≡ a + 1 + k = omega arith in
    ap (λ j. a ∷ (range_with_len (a + 1) k ++ j ∷ [])) e ∙ ap (λ xs. a ∷ xs) (more_numbers (a + 1) k)

pub put_number : (a k : ℕ) (old new : List ℕ) → a ≤ k → new ≡ old ++ k ∷ [] → old ≡ range_with_len a (k - a) → new ≡ range_with_len a (k + 1 - a)
put_number a k old new h add before =
    let e : a + (k - a) ≡ k = omega arith in
    let f : suc (k - a) ≡ k + 1 - a = omega arith in
    add ∙ ap (λ xs. xs ++ k ∷ []) before ∙ ap (λ j. range_with_len a (k - a) ++ j ∷ []) (sym e) ∙ more_numbers a (k - a) ∙ ap (range_with_len a) f

-- the numbers that are gone through
pub among_faces : (n f : ℕ) → f < n * n + 2 → f ≤ faces n
unfolding faces
among_faces n f h = omega arith

pub among_nodes : (n k : ℕ) → k < (n + 1) * (n + 1) + 1 → k ≤ nodes n
unfolding nodes
among_nodes n k h = omega arith

-- how many there are at the end
pub all_faces : (n k : ℕ) → k ≡ n * n + 2 → k - 1 ≡ faces n
unfolding faces
all_faces n k e = omega arith

pub all_nodes : (n k : ℕ) → k ≡ (n + 1) * (n + 1) + 1 → k - 1 ≡ nodes n
unfolding nodes
all_nodes n k e = omega arith

pub all_edges : (n x : ℕ) → x ≡ n + 1 → n * (n + 1) + x * n ≡ edges n
unfolding edges
all_edges n x e = ap (λ k. n * (n + 1) + k * n) e ∙ omega arith
