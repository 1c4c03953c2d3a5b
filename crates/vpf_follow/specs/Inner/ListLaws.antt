-- The darts of a coverage, of which those before a dart are passed.
use Rattle.std.proofs.Common.{[], ◌≡◌, ℕ, zero, suc, ◌+◌, ◌-◌, ◌*◌, ◌^◌, ◌<◌, ◌≤◌, true, List, ◌∷◌, ◌++◌, refl, sym, ◌∙◌, arith, append-nil, append_assoc}
use Rattle.std.specs.Prelude.{All}
use Rattle.std.proofs.lemmas.List.Elements.{All-append}
use Rattle.vpf_darts.specs.Darts.{code}
use Rattle.vpf_wing.specs.Links.{row_darts, tile_darts}
use Rattle.vpf_follow.specs.Inner.Homes.{darts_to, darts_before}

-- both darts of an edge come next
pub to_next : (edges : ℕ → ℕ) (t k : ℕ) → darts_to edges t (suc k) ≡ (darts_to edges t k ++ code t (suc k) 0 ∷ []) ++ code t (suc k) 1 ∷ []
to_next edges zero k = sym (append_assoc (row_darts 0 k) (code 0 (suc k) 0 ∷ []) (code 0 (suc k) 1 ∷ []))
to_next edges (suc t) k =
    sym (append_assoc (tile_darts edges t) (row_darts (suc t) k) (code (suc t) (suc k) 0 ∷ code (suc t) (suc k) 1 ∷ []))
    ∙ sym (append_assoc (tile_darts edges t ++ row_darts (suc t) k) (code (suc t) (suc k) 0 ∷ []) (code (suc t) (suc k) 1 ∷ []))

-- both darts of an edge are passed
pub darts_after : (edges : ℕ → ℕ) (t k : ℕ) → 1 ≤ k → darts_before edges t k true ++ code t k 1 ∷ [] ≡ darts_to edges t k
darts_after edges t zero some = absurd (omega arith)
darts_after edges t (suc j) some = let z : suc j - 1 ≡ j = omega arith in rw z (sym (to_next edges t j))

-- past the last edge of a tile the next tile begins
pub to_tile : (edges : ℕ → ℕ) (t : ℕ) → darts_to edges (suc t) 0 ≡ darts_to edges t (edges t)
to_tile edges zero = append-nil (row_darts 0 (edges 0))
to_tile edges (suc t) = append-nil (tile_darts edges (suc t))

pub to_end : (edges : ℕ → ℕ) (t : ℕ) → darts_to edges t (edges t) ≡ tile_darts edges t
to_end edges zero = refl
to_end edges (suc t) = refl

pub All-widen : (m n : ℕ) (xs : List ℕ) → m ≤ n → All (λ x. x < m) xs → All (λ x. x < n) xs
All-widen m n xs h all i d low = let below : _ = all i d low in omega arith

All-two : (n x y : ℕ) → x < n → y < n → All (λ z. z < n) (x ∷ y ∷ [])
All-two n x y low high zero d h = low
All-two n x y low high (suc zero) d h = high
All-two n x y low high (suc (suc i)) d h = absurd (omega arith)

rows_below : (t k : ℕ) → All (λ x. x < code t (suc k) 0) (row_darts t k)
unfolding code
rows_below t zero = λ i d h. absurd (omega arith)
rows_below t (suc k) = All-append (λ x. x < 2 * (2 ^ 32 * t + suc (suc k)) + 0) (row_darts t k)
    ((2 * (2 ^ 32 * t + suc k) + 0) ∷ (2 * (2 ^ 32 * t + suc k) + 1) ∷ [])
    (All-widen (2 * (2 ^ 32 * t + suc k) + 0) (2 * (2 ^ 32 * t + suc (suc k)) + 0) (row_darts t k) (omega arith) (rows_below t k))
    (All-two (2 * (2 ^ 32 * t + suc (suc k)) + 0) (2 * (2 ^ 32 * t + suc k) + 0) (2 * (2 ^ 32 * t + suc k) + 1) (omega arith) (omega arith))

tiles_below : (edges : ℕ → ℕ) (t : ℕ) → ((s : ℕ) → edges s < 2 ^ 24) → All (λ x. x < code (suc t) 0 0) (tile_darts edges t)
unfolding code
tiles_below edges zero few =
    let last : edges 0 < 2 ^ 24 = few 0 in
    All-widen (2 * (2 ^ 32 * 0 + suc (edges 0)) + 0) (2 * (2 ^ 32 * 1 + 0) + 0) (row_darts 0 (edges 0)) (omega arith) (rows_below 0 (edges 0))
tiles_below edges (suc t) few =
    let last : edges (suc t) < 2 ^ 24 = few (suc t) in
    All-append (λ x. x < 2 * (2 ^ 32 * suc (suc t) + 0) + 0) (tile_darts edges t) (row_darts (suc t) (edges (suc t)))
    (All-widen (2 * (2 ^ 32 * suc t + 0) + 0) (2 * (2 ^ 32 * suc (suc t) + 0) + 0) (tile_darts edges t) (omega arith) (tiles_below edges t few))
    (All-widen (2 * (2 ^ 32 * suc t + suc (edges (suc t))) + 0) (2 * (2 ^ 32 * suc (suc t) + 0) + 0) (row_darts (suc t) (edges (suc t))) (omega arith)
    (rows_below (suc t) (edges (suc t))))

-- the darts that were passed have lower numbers
pub to_below : (edges : ℕ → ℕ) (t k : ℕ) → ((s : ℕ) → edges s < 2 ^ 24) → All (λ x. x < code t (suc k) 0) (darts_to edges t k)
unfolding code
to_below edges zero k few = rows_below 0 k
to_below edges (suc t) k few =
    All-append (λ x. x < 2 * (2 ^ 32 * suc t + suc k) + 0) (tile_darts edges t) (row_darts (suc t) k)
    (All-widen (2 * (2 ^ 32 * suc t + 0) + 0) (2 * (2 ^ 32 * suc t + suc k) + 0) (tile_darts edges t) (omega arith) (tiles_below edges t few))
    (rows_below (suc t) k)
