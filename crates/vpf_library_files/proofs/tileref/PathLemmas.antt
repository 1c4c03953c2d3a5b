-- The paths of tiles by their numbers.
use Rattle.std.proofs.Common.{◌≡◌, ℕ, zero, suc, ◌-◌, ◌≤◌, Some, List, map, slice_get, ap, sym, subst, ◌∙◌, arith}
use Rattle.std.specs.Option.{option_map}
use Rattle.std.proofs.lemmas.Option.{slice_get-map}
use Rattle.vpf_prims.specs.Coverages.{numbered_path}

-- what stands at a place is the path of the tile of the next number
pub numbered_found : {S : Type 0} (text : S → List ℕ) (keys : List S) (paths : List (List ℕ)) (t place : ℕ) (key : S)
    → map text keys ≡ paths → 1 ≤ t → place ≡ t - 1 → Some key ≡ slice_get keys place → Some (text key) ≡ numbered_path paths t
numbered_found text keys paths zero place key e low at is = absurd (omega arith)
numbered_found {S} text keys paths (suc i) place key e low at is =
    let p : place ≡ i = omega arith in
    let here : Some key ≡ slice_get keys i = subst (λ (n : ℕ). Some key ≡ slice_get keys n) p is in
    ap (option_map text) here ∙ sym (slice_get-map text keys i) ∙ ap (λ (v : List (List ℕ)). slice_get v i) e
