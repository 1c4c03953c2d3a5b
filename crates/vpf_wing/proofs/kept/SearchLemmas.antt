-- A search among darts in their order.
use Rattle.std.proofs.Common.{◌≡◌, ℕ, ◌^◌, ◌<◌, ◌≤◌, true, Ok, Err, List, length, map, get_or, sym, ap, ◌∙◌, inl, inr, arith}
use Rattle.std.proofs.lemmas.Bool.{cases_eq, cases_lt}
use Rattle.std.proofs.lemmas.Bool.Decides.{nat_tests}
use Rattle.std.proofs.lemmas.Cmp.{ranked}
use Rattle.std.proofs.lemmas.List.{get_or-map, length-map}
use Rattle.std.specs.List.Sorted.{IsBinarySearchResult, IsNonDecreasingBy}
use Rattle.std.specs.Ordering.{nat_cmp, ordering_index}
use Rattle.std.specs.declared.cmp.Ordering.{Ordering}
use Rattle.std.specs.declared.cmp.Ordering.TheVariants.{Less, Equal, Greater}
use Rattle.vpf_darts.specs.declared.darts.TileDart.{TileDart}
use Rattle.vpf_darts.specs.Darts.{tile_dart_code}
use Rattle.vpf_wing.specs.Inner.DartLaws.{stands_in}
use Rattle.vpf_wing.specs.Inner.Kept.Kept.{AreInOrder, place_among}
use Rattle.vpf_wing.specs.Inner.Kept.PlaceLaws.{at_place, place_of_at, rises}

-- a comparison of darts is that of their numbers
abbrev pub ComparesNumbers : (TileDart → TileDart → Ordering) → Type 0
ComparesNumbers cmp = (c d : TileDart) → c.edge < 2 ^ 32 → d.edge < 2 ^ 32 → cmp c d ≡ nat_cmp (tile_dart_code c) (tile_dart_code d)

module _ (cmp : TileDart → TileDart → Ordering) (same : ComparesNumbers cmp) (darts : List TileDart) (order : AreInOrder darts) (x : TileDart) (small : x.edge < 2 ^ 32) where
  number_at : (i : ℕ) (d : TileDart) → i < length darts → get_or (map tile_dart_code darts) i 0 ≡ tile_dart_code (get_or darts i d)
  number_at i d h = get_or-map tile_dart_code darts i d 0 h

  below : (i : ℕ) → i < length darts → i < length (map tile_dart_code darts)
  below i h = let e = length-map darts tile_dart_code in omega arith

  compared : (i : ℕ) (d : TileDart) → i < length darts → cmp (get_or darts i d) x ≡ nat_cmp (get_or (map tile_dart_code darts) i 0) (tile_dart_code x)
  compared i d h = same (get_or darts i d) x (order.small i d h) small ∙ ap (λ n. nat_cmp n (tile_dart_code x)) (sym (number_at i d h))

  -- where a dart is found, its number stands
  pub found_at : (i : ℕ) → i < length darts → IsBinarySearchResult (λ y. cmp y x) darts (Ok i) → i ≡ place_among (map tile_dart_code darts) (tile_dart_code x)
  found_at i h equal =
      place_of_at (map tile_dart_code darts) order.rise i (tile_dart_code x) (below i h)
      (ranked (get_or (map tile_dart_code darts) i 0) (tile_dart_code x) Equal (sym (equal x) ∙ compared i x h))

  comparisons_rise : IsNonDecreasingBy (λ y. ordering_index (cmp y x)) darts
  comparisons_rise i j d le h =
      let before : i < length darts = omega arith in
      let a = compared i d before in
      let b = compared j d h in
      rw (a, b) (higher (get_or (map tile_dart_code darts) i 0) (get_or (map tile_dart_code darts) j 0) (no_lower i j le h))
    where
      no_lower : (i j : ℕ) → i ≤ j → j < length darts → get_or (map tile_dart_code darts) i 0 ≤ get_or (map tile_dart_code darts) j 0
      no_lower i j le h = elim (cases_eq i j) [
        | inl e ↦ (let e' = ap (λ k. get_or (map tile_dart_code darts) k 0) e in omega arith)
        | inr ne ↦ (let up = rises (map tile_dart_code darts) order.rise i j (omega arith) (below j h) in omega arith)
      ]

      higher : (a b : ℕ) → a ≤ b → ordering_index (nat_cmp a (tile_dart_code x)) ≤ ordering_index (nat_cmp b (tile_dart_code x))
      higher a b le = grind (arith, nat_tests)

  -- a dart whose number stands is found
  pub is_found : (i : ℕ) → stands_in (tile_dart_code x) (map tile_dart_code darts) ≡ true → IsBinarySearchResult (λ y. cmp y x) darts (Err i) → ⊥
  is_found i there parted =
      let p = at_place (map tile_dart_code darts) (tile_dart_code x) there in
      let e = length-map darts tile_dart_code in
      let k : ℕ = place_among (map tile_dart_code darts) (tile_dart_code x) in
      let inside : place_among (map tile_dart_code darts) (tile_dart_code x) < length darts = omega (arith, p.0) in
      let halves = parted comparisons_rise in
      elim (cases_lt k i) [
        | inl before ↦ (
            let less : get_or (map tile_dart_code darts) k 0 < tile_dart_code x =
            ranked (get_or (map tile_dart_code darts) k 0) (tile_dart_code x) Less (sym (halves.0 k x (omega arith) before) ∙ compared k x inside) in
            omega (arith, p.1))
        | inr after ↦ (
            let more : tile_dart_code x < get_or (map tile_dart_code darts) k 0 =
            ranked (get_or (map tile_dart_code darts) k 0) (tile_dart_code x) Greater (sym (halves.1 k x after inside) ∙ compared k x inside) in
            omega (arith, p.1))
      ]
