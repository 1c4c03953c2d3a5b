-- The answer of `trace` by what was loaded, and of which coverages it is done.
use Rattle.std.proofs.Common.{[], ◌≡◌, ℕ, suc, List, ◌∷◌, length, map, codes, refl, ap}
use Rattle.std.specs.List.{flat_map}
use Rattle.vpf_darts.specs.declared.darts.TileDart.{TileDart}
use Rattle.vpf_darts.specs.Listings.{numbers_of}
use Rattle.vpf_darts.specs.Darts.{tile_dart_code, tile_dart_text}
use Rattle.vpf_wing.specs.Inner.DartLaws.{code-minus}
use Rattle.vpf_findings.specs.Text.Texts.{◌&◌}
use Rattle.vpf_replies.specs.Listings.{cycle_lines, cycle_text, dart_of, numbered_text, listing_text}

-- darts are printed by their numbers
dart_same : (x y : TileDart) → tile_dart_code x ≡ tile_dart_code y → numbered_text x ≡ numbered_text y
unfolding numbered_text
dart_same x y e = ap (λ n. tile_dart_text (dart_of n)) e

others_same : (xs ys : List TileDart) → map tile_dart_code xs ≡ map tile_dart_code ys
    → flat_map (λ other. codes " " & numbered_text other) xs ≡ flat_map (λ other. codes " " & numbered_text other) ys
others_same [] [] e = refl
others_same [] (y ∷ ys) e = absurd cc
others_same (x ∷ xs) [] e = absurd cc
others_same (x ∷ xs) (y ∷ ys) e =
    let first : tile_dart_code x ≡ tile_dart_code y = cc in
    let rest : map tile_dart_code xs ≡ map tile_dart_code ys = cc in
    rw (dart_same x y first, others_same xs ys rest) refl

cycle_same : (xs ys : List TileDart) → map tile_dart_code xs ≡ map tile_dart_code ys → cycle_text xs ≡ cycle_text ys
cycle_same [] [] e = refl
cycle_same [] (y ∷ ys) e = absurd cc
cycle_same (x ∷ xs) [] e = absurd cc
cycle_same (x ∷ xs) (y ∷ ys) e =
    let first : tile_dart_code x ≡ tile_dart_code y = cc in
    let rest : map tile_dart_code xs ≡ map tile_dart_code ys = cc in
    rw (dart_same x y first, others_same xs ys rest) refl

lines_same : (xs ys : List (List TileDart)) → numbers_of xs ≡ numbers_of ys → (cycle_lines xs ≡ cycle_lines ys) × (length xs ≡ length ys)
lines_same [] [] e = (refl, refl)
lines_same [] (y ∷ ys) e = absurd cc
lines_same (x ∷ xs) [] e = absurd cc
lines_same (x ∷ xs) (y ∷ ys) e =
    let first : map tile_dart_code x ≡ map tile_dart_code y = cc in
    let rest : numbers_of xs ≡ numbers_of ys = cc in
    let both = lines_same xs ys rest in
    (rw (cycle_same x y first, both.0) refl, ap suc both.1)

pub text_same : (xs ys : List (List TileDart)) → numbers_of xs ≡ numbers_of ys → listing_text xs ≡ listing_text ys
text_same xs ys e = let both = lines_same xs ys e in rw (both.0, both.1) refl

-- the darts of these numbers
abbrev pub darts_of : List (List ℕ) → List (List TileDart)
darts_of lists = map (map dart_of) lists

number_is : (d : ℕ) → tile_dart_code (dart_of d) ≡ d
number_is d = code-minus d

numbers_are : (ds : List ℕ) → map tile_dart_code (map dart_of ds) ≡ ds
numbers_are [] = refl
numbers_are (d ∷ ds) = rw (number_is d, numbers_are ds) refl

pub lists_are : (lists : List (List ℕ)) → numbers_of (darts_of lists) ≡ lists
lists_are [] = refl
lists_are (ds ∷ lists) = rw (numbers_are ds, lists_are lists) refl
