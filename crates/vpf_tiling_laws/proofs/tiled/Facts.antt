-- Facts of tests, of lists of numbers and of the darts of an untiled coverage; and what is so of maps.
use Rattle.std.proofs.Common.{[], ◌≡◌, ℕ, zero, suc, ◌^◌, ◌<◌, ◌≤◌, true, false, eqb, ◌||◌, refl, ap, ◌∙◌, inl, inr, arith, ◌∷◌}
use Rattle.std.proofs.lemmas.Bool.{or_cases, eqb-true}
use Rattle.vpf_darts.specs.Darts.{code, tile_in, edge_in}
use Rattle.vpf_darts.specs.Inner.Laws.{FirstKeptDart}
use Rattle.vpf_wing.specs.Inner.Laws.{WellFormedHasMap}
use Rattle.vpf_wing.specs.Links.{row_darts}
use Rattle.vpf_wing.specs.Inner.DartLaws.{never_both, stands_in, stands-either, code-tile, code-edge}

-- what is so of maps: the next of a kept dart is the first kept one, and a well-formed coverage is a map
pub record MapLaws : Type 0 where
  pub first_kept : FirstKeptDart
  pub has_map : WellFormedHasMap

pub map_laws : FirstKeptDart → WellFormedHasMap → MapLaws
map_laws kept map = record { first_kept = kept; has_map = map }

-- what a number among the darts of a tile is
pub record AmongRow (t n d : ℕ) : Type 0 where
  pub tile : tile_in d ≡ t
  pub from_one : 1 ≤ edge_in d
  pub to_all : edge_in d ≤ n

among_code : (t n e s d : ℕ) → d ≡ code t e s → 1 ≤ e → e ≤ n → n < 2 ^ 24 → s < 2 → AmongRow t n d
among_code t n e s d same a b few hs =
    let small : e < 2 ^ 32 = omega arith in
    let x : edge_in d ≡ e = ap edge_in same ∙ code-edge t e s small hs in
    record { tile = ap tile_in same ∙ code-tile t e s small hs; from_one = omega arith; to_all = omega arith }

among_more : (t n d : ℕ) → AmongRow t n d → AmongRow t (suc n) d
among_more t n d r = let b = r.to_all in record { tile = r.tile; from_one = r.from_one; to_all = omega arith }

pub among : (t n d : ℕ) → n < 2 ^ 24 → stands_in d (row_darts t n) ≡ true → AmongRow t n d
among t zero d few h = absurd (never_both false h refl)
among t (suc n) d few h = elim (stands-either d (row_darts t n) (code t (suc n) 0 ∷ code t (suc n) 1 ∷ []) h) [
  | inl a ↦ among_more t n d (among t n d (omega arith) a)
  | inr b ↦ (elim (or_cases (eqb d (code t (suc n) 0)) (eqb d (code t (suc n) 1) || false) b) [
    | inl e ↦ among_code t (suc n) (suc n) 0 d (eqb-true d (code t (suc n) 0) e) (omega arith) (omega arith) few (omega arith)
    | inr r ↦ (elim (or_cases (eqb d (code t (suc n) 1)) false r) [
      | inl e ↦ among_code t (suc n) (suc n) 1 d (eqb-true d (code t (suc n) 1) e) (omega arith) (omega arith) few (omega arith)
      | inr f ↦ absurd (never_both false f refl)
    ])
  ])
]
