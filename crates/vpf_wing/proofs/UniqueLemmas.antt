-- Listings of darts in tile 0 by the numbers of the darts.
use Rattle.std.proofs.Common.{◌≡◌, ℕ, ◌+◌, ◌*◌, ◌/◌, ◌%◌, ◌^◌, Bool, true, false, eqb, List, [], ◌∷◌, map, refl, sym, ap, ◌∙◌, arith, inl, inr}
use Rattle.std.specs.Prelude.{All}
use Rattle.std.proofs.lemmas.Bool.{cases_eq}
use Rattle.std.proofs.lemmas.List.Elements.{All-head, All-tail, All-cons, All-nil}
use Rattle.vpf_darts.specs.declared.darts.TileDart.{TileDart}
use Rattle.vpf_darts.specs.Darts.{code, tile_dart_code, sign_of}
use Rattle.vpf_darts.specs.Listings.{numbers_of}

abbrev Untiled : TileDart → Type 0
Untiled d = d.tile ≡ 0

-- the dart in tile 0 that has a number
abbrev pub dart_of : ℕ → TileDart
dart_of x = record { tile = 0; edge = x / 2; minus = eqb (x % 2) 1 }

parts : (tile edge e : ℕ) (minus m : Bool) → 0 ≡ tile → e ≡ edge → m ≡ minus → (let d : TileDart = record { tile = 0; edge = e; minus = m } in d) ≡ (let d : TileDart = record { tile = tile; edge = edge; minus = minus } in d)
parts tile edge e minus m p q r = rw (← p, q, r) refl

back_by : (tile edge : ℕ) (minus : Bool) → tile ≡ 0 → dart_of (code tile edge (sign_of minus)) ≡ (let d : TileDart = record { tile = tile; edge = edge; minus = minus } in d)
unfolding code
back_by tile edge true z =
    let e : (2 * (2 ^ 32 * tile + edge) + 1) / 2 ≡ edge = rw z (omega arith) in
    let o : (2 * (2 ^ 32 * tile + edge) + 1) % 2 ≡ 1 = rw z (omega arith) in
    parts tile edge ((2 * (2 ^ 32 * tile + edge) + 1) / 2) true (eqb ((2 * (2 ^ 32 * tile + edge) + 1) % 2) 1) (sym z) e (rw o refl)
back_by tile edge false z =
    let e : (2 * (2 ^ 32 * tile + edge) + 0) / 2 ≡ edge = rw z (omega arith) in
    let o : (2 * (2 ^ 32 * tile + edge) + 0) % 2 ≡ 0 = rw z (omega arith) in
    parts tile edge ((2 * (2 ^ 32 * tile + edge) + 0) / 2) false (eqb ((2 * (2 ^ 32 * tile + edge) + 0) % 2) 1) (sym z) e (rw o refl)

back : (xs : List TileDart) → All Untiled xs → map dart_of (map tile_dart_code xs) ≡ xs
back [] h = refl
back (d ∷ xs) h =
    let e : dart_of (tile_dart_code d) ≡ d = back_by d.tile d.edge d.minus (All-head Untiled d xs h) in
    let es : map dart_of (map tile_dart_code xs) ≡ xs = back xs (All-tail Untiled d xs h) in
    rw (e, es) refl

back_all : (lists : List (List TileDart)) → All (All Untiled) lists → map (map dart_of) (numbers_of lists) ≡ lists
back_all [] h = refl
back_all (xs ∷ lists) h =
    let e : map dart_of (map tile_dart_code xs) ≡ xs = back xs (All-head (All Untiled) xs lists h) in
    let es : map (map dart_of) (numbers_of lists) ≡ lists = back_all lists (All-tail (All Untiled) xs lists h) in
    rw (e, es) refl

-- lists of darts in tile 0 are equal where their numbers are
pub same_lists : (xs ys : List (List TileDart)) → All (All Untiled) xs → All (All Untiled) ys → numbers_of xs ≡ numbers_of ys → xs ≡ ys
same_lists xs ys hx hy e = sym (back_all xs hx) ∙ ap (map (map dart_of)) e ∙ back_all ys hy

number_back : (x : ℕ) → tile_dart_code (dart_of x) ≡ x
unfolding code
number_back x = elim (cases_eq (x % 2) 1) [
  | inl odd ↦ rw odd (omega arith)
  | inr even ↦ (let z : x % 2 ≡ 0 = omega arith in rw z (omega arith))
]

numbers_back : (xs : List ℕ) → map tile_dart_code (map dart_of xs) ≡ xs
numbers_back [] = refl
numbers_back (x ∷ xs) = rw (number_back x, numbers_back xs) refl

-- the darts of numbers have these numbers
pub numbers_all_back : (lists : List (List ℕ)) → numbers_of (map (map dart_of) lists) ≡ lists
numbers_all_back [] = refl
numbers_all_back (xs ∷ lists) = rw (numbers_back xs, numbers_all_back lists) refl

untiled : (xs : List ℕ) → All Untiled (map dart_of xs)
untiled [] = All-nil Untiled
untiled (x ∷ xs) = All-cons Untiled (dart_of x) (map dart_of xs) refl (untiled xs)

-- and stand in tile 0
pub all_untiled : (lists : List (List ℕ)) → All (All Untiled) (map (map dart_of) lists)
all_untiled [] = All-nil (All Untiled)
all_untiled (xs ∷ lists) = All-cons (All Untiled) (map dart_of xs) (map (map dart_of) lists) (untiled xs) (all_untiled lists)
