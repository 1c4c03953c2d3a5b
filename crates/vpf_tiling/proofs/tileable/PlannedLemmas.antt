-- The tiles of the faces, one after another.
use Rattle.std.proofs.Common.{◌≡◌, ℕ, ℤ, zero, suc, ◌+◌, refl, sym, ap, ◌∙◌, inl, inr, arith, Option, None, List, [], ◌∷◌, ◌++◌, length, map, get_or, cond, eqb}
use Rattle.std.specs.List.{range_with_len}
use Rattle.std.proofs.lemmas.Bool.{cases_Bool, cases_lt}
use Rattle.std.proofs.lemmas.List.{get_or_past, map_push, length-map}
use Rattle.std.proofs.lemmas.List.FromFn.{get_or-map-range_with_len, length-range_with_len}
use Rattle.vpf_prims.specs.Lists.{kth}
use Rattle.vpf_tiling.specs.Ranks.{up_to}
use Rattle.vpf_tiling.specs.Inner.RankLaws.{up-last}
use Rattle.vpf_tiling.specs.Tileable.Planning.{named_for, planned_tile, plan_of}

-- one face more
pub more : (named : List (Option ℤ)) (tiles : List ℕ) (n v : ℕ) → tiles ≡ map (plan_of named) (range_with_len 1 n) → v ≡ plan_of named (n + 1)
    → tiles ++ v ∷ [] ≡ map (plan_of named) (range_with_len 1 (n + 1))
more named tiles n v before is =
    let one : n + 1 ≡ suc n = omega arith in
    ap (λ xs. xs ++ v ∷ []) before ∙ ap (λ w. map (plan_of named) (up_to n) ++ w ∷ []) (is ∙ ap (plan_of named) one)
    ∙ sym (ap (λ k. map (plan_of named) (range_with_len 1 k)) one ∙ ap (map (plan_of named)) (up-last n) ∙ map_push (plan_of named) (up_to n) (suc n))

-- a face for which nothing is named has no tile
none_planned : (f : ℕ) (o : Option ℤ) → o ≡ None → planned_tile f o ≡ 0
none_planned f o e = ap (planned_tile f) e ∙ (elim (cases_Bool (eqb f 1)) [ inl t ↦ ap (λ b. cond b 0 0) t | inr u ↦ ap (λ b. cond b 0 0) u ])

-- the tile of each number, a face or not
pub each : (named : List (Option ℤ)) (faces : ℕ) (tiles : List ℕ) → length named ≡ faces → tiles ≡ map (plan_of named) (range_with_len 1 faces)
    → (f : ℕ) → kth tiles f 0 ≡ plan_of named f
each named faces tiles long is zero = refl
each named faces tiles long is (suc j) = elim (cases_lt j faces) [
  | inl lt ↦ ap (λ xs. get_or xs j 0) is ∙ get_or-map-range_with_len (plan_of named) 1 faces j (suc j) 0 lt (omega arith)
  | inr le ↦ (
      let many : length tiles ≡ faces = ap length is ∙ length-map (range_with_len 1 faces) (plan_of named) ∙ length-range_with_len 1 faces in
      get_or_past tiles j 0 (omega arith)
      ∙ sym (none_planned (suc j) (named_for named (suc j)) (get_or_past named j None (omega arith))))
]
