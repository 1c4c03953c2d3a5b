-- The outer rings of a tile are those of the cycles that begin outside its faces.
use Rattle.std.proofs.Common.{◌≡◌, ℕ, true, not, ◌&&◌, sym, ap, ◌∙◌, List, length, map}
use Rattle.std.specs.Prelude.{filter}
use Rattle.std.proofs.lemmas.Bool.{and_from, and_parts}
use Rattle.vpf_darts.specs.Cycles.{IsListing, first_of}
use Rattle.vpf_darts.specs.Inner.Laws.{FirstKeptDart}
use Rattle.vpf_prims.specs.Primitives.{Primitives, untiled}
use Rattle.vpf_tiling.specs.Plans.{IsTileable}
use Rattle.vpf_tiling.specs.Presence.{is_present, is_within, tile_map, untiled_links}
use Rattle.vpf_tiling.specs.Inner.PresenceLaws.{present_has, stands_filter}
use Rattle.vpf_tiling.specs.Tiles.{outer_darts, outer_rings}
use Rattle.vpf_wing.specs.Inner.DartLaws.{darts-stand, stands_in}
use Rattle.vpf_wing.specs.Inner.Laws.{WellFormedHasMap}
use Rattle.vpf_cut_rings.specs.Inner.Laws.{ArePassing}
use Rattle.vpf_cut_rings.specs.Inner.Rings.{outer_ring}
use Rattle.vpf_cut_rings.proofs.DartLemmas.{row_rises, tile_live}
use Rattle.vpf_cut_rings.proofs.LeastLemmas.{leasts_begin}
use Rattle.vpf_cut_rings.proofs.OrderLemmas.{increasing_of, kept_rise, same_test}
use Rattle.vpf_cut_rings.specs.Inner.OrderLaws.{kept_stands}
use Rattle.vpf_cut_rings.proofs.SideLemmas.{next_side}

outer_each : (c : Primitives) (plan : ℕ → ℕ) (t d : ℕ)
    → stands_in d (outer_darts c plan t) ≡ ((tile_map c plan t).live d && not (is_within c plan t d))
outer_each c plan t d = same_test _ _
    (λ s. ap (λ b. b && not (is_within c plan t d)) (tile_live c plan t d)
    ∙ (kept_stands (λ x. is_present c plan t x && not (is_within c plan t x)) d (untiled_links c).darts s).0)
    (λ h. (let q = and_parts ((tile_map c plan t).live d) (not (is_within c plan t d)) h in
    let p : is_present c plan t d ≡ true = sym (tile_live c plan t d) ∙ q.0 in
    stands_filter (λ x. is_present c plan t x && not (is_within c plan t x)) d (untiled_links c).darts
    (and_from (is_present c plan t d) (not (is_within c plan t d)) p q.1) (darts-stand (untiled c) d (present_has c plan t d p))))

outer_passing : FirstKeptDart → WellFormedHasMap → (c : Primitives) (plan : ℕ → ℕ) (tiles : ℕ) → IsTileable c plan tiles → (t : ℕ)
    → ArePassing (tile_map c plan t).next (tile_map c plan t).live (λ d. not (is_within c plan t d)) (outer_darts c plan t)
outer_passing first has_map c plan tiles w t = record {
  rise = increasing_of (outer_darts c plan t)
      (kept_rise (λ x. is_present c plan t x && not (is_within c plan t x)) (untiled_links c).darts (row_rises (length c.edges)));
  each = outer_each c plan t;
  along = λ d h. ap not (next_side first has_map c plan tiles w t d (sym (tile_live c plan t d) ∙ h));
}

pub outer_begin : FirstKeptDart → WellFormedHasMap → (c : Primitives) (plan : ℕ → ℕ) (tiles : ℕ) → IsTileable c plan tiles → (t : ℕ) (lists : List (List ℕ))
    → IsListing (tile_map c plan t).next (tile_map c plan t).live lists
    → outer_rings c plan t ≡ map (outer_ring c plan t) (filter (λ d. not (is_within c plan t d)) (map first_of lists))
outer_begin first has_map c plan tiles w t lists l =
    ap (map (outer_ring c plan t)) (leasts_begin (tile_map c plan t).next (tile_map c plan t).live (λ d. not (is_within c plan t d)) (outer_darts c plan t) lists l
    (outer_passing first has_map c plan tiles w t))
