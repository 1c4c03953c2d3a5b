-- The pieces of a list.
use Rattle.std.proofs.Common.{◌≡◌, ℕ, zero, suc, ◌-◌, ◌<◌, ◌≤◌, List, [], ◌∷◌, ◌++◌, length, map, take, drop, get_or, Some, refl, sym, ap, ◌∙◌, arith, slice_range, length-append}
use Rattle.std.proofs.Math.Seq.{drop-append_seam, take-length}
use Rattle.std.proofs.lemmas.List.{take-append-le, drop-append-le, length-drop, take-map, drop-map}
use Rattle.std.specs.Prelude.{slice_get}
use Rattle.vpf_darts.specs.Listings.{pieces, RiseTo, begin_of}

pub length_pieces : {A : Type 0} → (start : ℕ) (ends : List ℕ) (darts : List A) → length (pieces start ends darts) ≡ length ends
length_pieces start [] darts = refl
length_pieces start (e ∷ ends) darts = ap suc (length_pieces e ends darts)

pub begin_of-before : (start : ℕ) (ends : List ℕ) (i : ℕ) → suc i < length ends → begin_of start ends (suc i) ≡ get_or ends i 0
begin_of-before start [] i h = absurd (omega arith)
begin_of-before start (e ∷ ends) zero h = refl
begin_of-before start (e ∷ ends) (suc i) h = begin_of-before e ends i (omega arith)

pub ends-le : (start n : ℕ) (ends : List ℕ) → RiseTo start ends n → start ≤ n
ends-le start n [] r = omega arith
ends-le start n (e ∷ ends) r = omega (arith, ends-le e n ends r.1)

pub bounds : (start n : ℕ) (ends : List ℕ) (i : ℕ) → RiseTo start ends n → i < length ends → (begin_of start ends i ≤ get_or ends i 0) × (get_or ends i 0 ≤ n)
bounds start n [] i r h = absurd (omega arith)
bounds start n (e ∷ ends) zero r h = (r.0, ends-le e n ends r.1)
bounds start n (e ∷ ends) (suc i) r h = bounds e n ends i r.1 (omega arith)

pub piece_at : {A : Type 0} → (start : ℕ) (ends : List ℕ) (darts : List A) (i : ℕ) → i < length ends → slice_get (pieces start ends darts) i ≡ Some (slice_range darts (begin_of start ends i) (get_or ends i 0))
piece_at start [] darts i h = absurd (omega arith)
piece_at start (e ∷ ends) darts zero h = refl
piece_at start (e ∷ ends) darts (suc i) h = piece_at e ends darts i (omega arith)

pub before : (start : ℕ) (ends : List ℕ) (i : ℕ) → 0 < i → i < length ends → begin_of start ends i ≡ get_or ends (i - 1) 0
before start [] i p h = absurd (omega arith)
before start (e ∷ ends) zero p h = absurd (omega arith)
before start (e ∷ ends) (suc i) p h = begin_of-before start (e ∷ ends) i h ∙ ap (λ k. get_or (e ∷ ends) k 0) (omega arith)

-- a part of what stands before stays where more is put after it
pub slice_range-append : {A : Type 0} → (xs ys : List A) (i j : ℕ) → i ≤ j → j ≤ length xs → slice_range (xs ++ ys) i j ≡ slice_range xs i j
slice_range-append xs ys i j low high = rw (drop-append-le i xs ys (omega arith)) (take-append-le (j - i) (drop i xs) ys (rw length-drop (omega arith)))

pub slice_range-seam : {A : Type 0} → (xs ys : List A) (i j : ℕ) → i ≡ length xs → j ≡ length (xs ++ ys) → slice_range (xs ++ ys) i j ≡ ys
slice_range-seam xs ys i j low high =
    let behind : drop i (xs ++ ys) ≡ ys = ap (λ k. drop k (xs ++ ys)) low ∙ drop-append_seam xs ys in
    let all : j - i ≡ length ys = omega (arith, length-append xs ys) in
    ap (take (j - i)) behind ∙ ap (λ k. take k ys) all ∙ take-length ys

pub pieces-push : {A : Type 0} → (start : ℕ) (ends : List ℕ) (xs ys : List A) (n : ℕ) → RiseTo start ends (length xs) → n ≡ length (xs ++ ys) → pieces start (ends ++ n ∷ []) (xs ++ ys) ≡ pieces start ends xs ++ ys ∷ []
pieces-push start [] xs ys n rise len = ap (λ zs. zs ∷ []) (slice_range-seam xs ys start n rise len)
pieces-push start (e ∷ ends) xs ys n rise len =
    let high : e ≤ length xs = ends-le e (length xs) ends rise.1 in
    let same : slice_range (xs ++ ys) start e ≡ slice_range xs start e = slice_range-append xs ys start e rise.0 high in
    let rest : pieces e (ends ++ n ∷ []) (xs ++ ys) ≡ pieces e ends xs ++ ys ∷ [] = pieces-push e ends xs ys n rise.1 len in
    ap (λ zs. zs ∷ pieces e (ends ++ n ∷ []) (xs ++ ys)) same ∙ ap (λ zs. slice_range xs start e ∷ zs) rest

pub RiseTo-push : (start : ℕ) (ends : List ℕ) (m n : ℕ) → RiseTo start ends m → m ≤ n → RiseTo start (ends ++ n ∷ []) n
RiseTo-push start [] m n rise le = (omega arith, refl)
RiseTo-push start (e ∷ ends) m n rise le = (rise.0, RiseTo-push e ends m n rise.1 le)

pub map-slice_range : {A B : Type 0} → (f : A → B) (xs : List A) (i j : ℕ) → map f (slice_range xs i j) ≡ slice_range (map f xs) i j
map-slice_range f xs i j = sym (take-map f (j - i) (drop i xs)) ∙ ap (take (j - i)) (sym (drop-map f i xs))

pub map-pieces : {A B : Type 0} → (f : A → B) (start : ℕ) (ends : List ℕ) (xs : List A) → map (map f) (pieces start ends xs) ≡ pieces start ends (map f xs)
map-pieces f start [] xs = refl
map-pieces f start (e ∷ ends) xs = ap (λ zs. zs ∷ map (map f) (pieces e ends xs)) (map-slice_range f xs start e) ∙ ap (λ zs. slice_range (map f xs) start e ∷ zs) (map-pieces f e ends xs)
