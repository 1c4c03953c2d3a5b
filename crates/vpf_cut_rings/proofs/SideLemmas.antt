-- A dart of a tile and its next there have a face of the tile both, or neither.
use Rattle.std.proofs.Common.{◌≡◌, ℕ, zero, suc, true, false, not, ◌&&◌, sym, ap, ◌∙◌, inl, inr}
use Rattle.std.proofs.lemmas.Bool.{cases_Bool, not-true, or_left, or_right}
use Rattle.vpf_darts.specs.Darts.{flip}
use Rattle.vpf_darts.specs.Inner.Laws.{ComesRoundTo, FirstKeptDart}
use Rattle.vpf_darts.specs.Maps.{is_of_any}
use Rattle.vpf_prims.specs.Primitives.{Primitives, untiled}
use Rattle.vpf_wing.specs.Inner.DartLaws.{flip-has, never_both}
use Rattle.vpf_wing.specs.Inner.Laws.{WellFormedHasMap}
use Rattle.vpf_wing.specs.WellFormed.{IsWellFormed}
use Rattle.vpf_tiling.specs.Plans.{IsTileable}
use Rattle.vpf_tiling.specs.Presence.{absent_darts, coverage_map, face_of, holds_face, is_present, is_within, next_of, tile_map, untiled_links}
use Rattle.vpf_tiling.specs.Inner.PresenceLaws.{face_next, present_has, source_next}
use Rattle.vpf_cutting.specs.Inner.WalkLaws.{absent_edges, passed_is}

within_next : (c : Primitives) (plan : ℕ → ℕ) → IsWellFormed c → (t d : ℕ) → (untiled_links c).has d ≡ true
    → is_within c plan t (next_of c d) ≡ is_within c plan t d
within_next c plan w t d h =
    ap (λ b. b && holds_face c plan t (face_of c (next_of c d))) (source_next c w d h).has
    ∙ ap (holds_face c plan t) (face_next c w d h)
    ∙ sym (ap (λ b. b && holds_face c plan t (face_of c d)) h)

-- neither dart of an absent edge has a face of the tile
record NeitherWithin (c : Primitives) (plan : ℕ → ℕ) (t d : ℕ) : Type 0 where
  pub this : is_within c plan t d ≡ false
  pub other : is_within c plan t (flip d) ≡ false

neither_within : (c : Primitives) (plan : ℕ → ℕ) (t d : ℕ) → is_present c plan t d ≡ false → NeitherWithin c plan t d
neither_within c plan t d n = record {
  this = elim (cases_Bool (is_within c plan t d)) [
    | inl i ↦ absurd (never_both (is_present c plan t d) (or_left (is_within c plan t d) (is_within c plan t (flip d)) i) n)
    | inr f ↦ f
  ];
  other = elim (cases_Bool (is_within c plan t (flip d))) [
    | inl i ↦ absurd (never_both (is_present c plan t d) (or_right (is_within c plan t d) (is_within c plan t (flip d)) i) n)
    | inr f ↦ f
  ];
}

-- a walk past absent edges ends with a face of the tile exactly where it began with one
walk_side : (c : Primitives) (plan : ℕ → ℕ) → IsWellFormed c → (t k x y : ℕ) → (untiled_links c).has x ≡ true
    → ComesRoundTo (coverage_map c) (is_of_any flip (absent_darts c plan t)) k x y → is_within c plan t y ≡ is_within c plan t x
walk_side c plan w t zero x y hx m = ap (is_within c plan t) (sym m.1)
walk_side c plan w t (suc k) x y hx m = (
    let gone : is_present c plan t x ≡ false = not-true (is_present c plan t x) (sym (passed_is c plan t x hx) ∙ m.0) in
    let n : NeitherWithin c plan t x = neither_within c plan t x gone in
    let hf : (untiled_links c).has (flip x) ≡ true = flip-has (untiled c) x hx in
    walk_side c plan w t k (next_of c (flip x)) y (source_next c w (flip x) hf).has m.1 ∙ within_next c plan w t (flip x) hf ∙ n.other ∙ sym n.this)

pub next_side : FirstKeptDart → WellFormedHasMap → (c : Primitives) (plan : ℕ → ℕ) (tiles : ℕ) → IsTileable c plan tiles → (t d : ℕ)
    → is_present c plan t d ≡ true → is_within c plan t ((tile_map c plan t).next d) ≡ is_within c plan t d
next_side first has_map c plan tiles w t d h = (
    let hd : (untiled_links c).has d ≡ true = present_has c plan t d h in
    let kept : is_of_any flip (absent_darts c plan t) d ≡ false = passed_is c plan t d hd ∙ ap not h in
    let r = first (coverage_map c) (absent_darts c plan t) d (has_map c w.few w.well_formed) (absent_edges c plan t w.few) kept in
    walk_side c plan w.well_formed t r.0 (next_of c d) ((tile_map c plan t).next d) (source_next c w.well_formed d hd).has r.2
    ∙ within_next c plan w.well_formed t d hd)
