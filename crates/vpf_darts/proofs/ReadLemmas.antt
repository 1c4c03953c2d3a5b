-- What is read of the lists of a map at a dart.
use Rattle.std.proofs.Common.{◌≡◌, ℕ, suc, ◌+◌, ◌-◌, ◌*◌, ◌/◌, ◌<◌, ◌≤◌, Bool, true, false, IsTrue, List, ◌∷◌, length, map, get_or, sym, ap, ◌∙◌, inl, inr, arith}
use Rattle.std.proofs.lemmas.Bool.{cases_Bool}
use Rattle.std.proofs.lemmas.Bool.Decides.{nat_tests}
use Rattle.std.proofs.lemmas.List.{length-map}
use Rattle.vpf_darts.specs.declared.darts.Dart.{Dart}
use Rattle.vpf_darts.specs.Darts.{dart_code, sign_of}
use Rattle.vpf_darts.specs.MapLists.{IsInRange, is_among}
use Rattle.vpf_darts.proofs.DartLemmas.{untiled_code, sign_of-le, dart_code-half}
use Rattle.vpf_darts.proofs.MarkLemmas.{any_default}
use Rattle.vpf_darts.proofs.NextLemmas.{no_dart, next_in, next_in_place, in_range-bounds, among_bounds, among_within}

-- a dart among those of some edges is of one of them
pub edge_bounds : (n edges : ℕ) (d : Dart) → n ≡ 2 * edges → is_among n (dart_code d) ≡ true → (1 ≤ d.edge) × (d.edge ≤ edges)
edge_bounds n edges d two has =
    let b : (2 ≤ dart_code d) × (dart_code d < n + 2) = among_bounds n (dart_code d) has in
    let e = untiled_code d.edge (sign_of d.minus) in
    let s = sign_of-le d.minus in
    (omega (arith, b.0, e, s), omega (arith, b.1, e, s))

pub has_read : (next : List Dart) (edges : ℕ) (d : Dart) (is_in : Bool) → length (map dart_code next) ≡ 2 * edges → (IsTrue is_in → IsInRange (length next) d) → (IsInRange (length next) d → IsTrue is_in) → is_in ≡ is_among (length (map dart_code next)) (dart_code d)
has_read next edges d is_in two there back =
    let len : length (map dart_code next) ≡ length next = length-map next dart_code in
    elim (cases_Bool (is_among (length (map dart_code next)) (dart_code d))) [
      | inl t ↦ (
          let b : (1 ≤ d.edge) × (d.edge ≤ edges) = edge_bounds (length (map dart_code next)) edges d two t in
          let h : IsTrue is_in = back (b.0, omega (arith, b.1)) in
          grind (arith, nat_tests))
      | inr f ↦ elim (cases_Bool is_in) [
        | inr g ↦ g ∙ sym f
        | inl u ↦ (
            let h : IsTrue is_in = grind (arith, nat_tests) in
            let b : (2 ≤ dart_code d) × (dart_code d < length next + 2) = in_range-bounds (length next) d (there h) in
            let t : is_among (length (map dart_code next)) (dart_code d) ≡ true = among_within (length (map dart_code next)) (dart_code d) b.0 (omega (arith, b.1)) in
            u ∙ sym t)
      ]
    ]

pub live_read : (live : List Bool) (d : Dart) (read : Bool) → 1 ≤ d.edge → d.edge ≤ length live → read ≡ get_or live (d.edge - 1) read → read ≡ get_or (false ∷ live) (dart_code d / 2) false
live_read live d read low high is =
    let e : dart_code d / 2 ≡ suc (d.edge - 1) = dart_code-half d ∙ (omega arith) in
    is ∙ any_default live (d.edge - 1) read false (omega arith) ∙ ap (λ k. get_or (false ∷ live) k false) (sym e)

pub next_read : (next : List Dart) (d read : Dart) → is_among (length (map dart_code next)) (dart_code d) ≡ true → read ≡ get_or next (dart_code d - 2) read → dart_code read ≡ next_in next (dart_code d)
next_read next d read has is =
    let len : length (map dart_code next) ≡ length next = length-map next dart_code in
    let b : (2 ≤ dart_code d) × (dart_code d < length (map dart_code next) + 2) = among_bounds (length (map dart_code next)) (dart_code d) has in
    let h : dart_code d - 2 < length next = omega (arith, b.0, b.1) in
    let up : dart_code d - 2 + 2 ≡ dart_code d = omega (arith, b.0) in
    ap dart_code (is ∙ any_default next (dart_code d - 2) read no_dart h) ∙ sym (next_in_place next (dart_code d - 2) h) ∙ ap (next_in next) up
