-- The darts of a tile as they are listed, and whether their faces are of the tile.
use Rattle.std.proofs.Common.{◌≡◌, ℕ, ◌^◌, ◌<◌, ◌≤◌, Bool, true, false, sym, ap, ◌∙◌, subst, arith, List, length, map}
use Rattle.std.specs.Prelude.{All, filter}
use Rattle.std.specs.List.Sorted.{IsStrictlyIncreasing}
use Rattle.vpf_darts.specs.declared.darts.TileDart.{TileDart}
use Rattle.vpf_darts.specs.Darts.{code, edge_in, sign_of, tile_dart_code}
use Rattle.vpf_wing.specs.Inner.Kept.Kept.{AreKept}
use Rattle.vpf_prims.specs.Numbering.{IsRowOf}
use Rattle.vpf_prims.specs.Primitives.{Primitives}
use Rattle.vpf_tiling.specs.Plans.{IsTileable}
use Rattle.vpf_tiling.specs.Presence.{absent_darts, coverage_map, has_edge, is_present, untiled_links}
use Rattle.vpf_tiling.specs.Inner.PresenceLaws.{other-code, present_flip, present_has}
use Rattle.vpf_wing.specs.Inner.DartLaws.{code-edge, sign-small, stands_in}
use Rattle.vpf_wing.specs.Inner.Laws.{WellFormedHasMap}
use Rattle.vpf_cutting.specs.Inner.WalkLaws.{absent_edges, has_row}
use Rattle.vpf_cut_rings.proofs.DartLemmas.{darts_are_live, row_rises}
use Rattle.vpf_cut_rings.proofs.OrderLemmas.{increasing_of, kept_rise}

-- a present dart has its edge in the tile, and this is an edge of the coverage
pub record IsOfTile (c : Primitives) (plan : ℕ → ℕ) (t e : ℕ) : Type 0 where
  pub row : IsRowOf (length c.edges) e
  pub edge : has_edge c plan t e ≡ true

pub edge_of_tile : (c : Primitives) (plan : ℕ → ℕ) (t e : ℕ) (m : Bool) → is_present c plan t (code 0 e (sign_of m)) ≡ true → IsOfTile c plan t e
edge_of_tile c plan t e m h =
    let d : ℕ = code 0 e (sign_of m) in
    let row : IsRowOf (length c.edges) e = has_row c e (sign_of m) (sign-small m) (present_has c plan t d h) in
    record { row = row; edge = plus_present m h }
  where
    plus_present : (m : Bool) → is_present c plan t (code 0 e (sign_of m)) ≡ true → has_edge c plan t e ≡ true
    plus_present false h = h
    plus_present true h = ap (is_present c plan t) (sym (other-code e)) ∙ present_flip c plan t (code 0 e 1) h

-- the edge of a dart that is present
pub edge_is : (c : Primitives) (plan : ℕ → ℕ) (t e : ℕ) (m : Bool) → length c.edges < 2 ^ 24 → is_present c plan t (code 0 e (sign_of m)) ≡ true
    → edge_in (code 0 e (sign_of m)) ≡ e
edge_is c plan t e m few h =
    let row : IsRowOf (length c.edges) e = (edge_of_tile c plan t e m h).row in
    let last : e ≤ length c.edges = row.1 in
    code-edge 0 e (sign_of m) (omega arith) (sign-small m)

-- the darts of a tile are those that a walk past the edges that aren't there keeps
pub are_kept : WellFormedHasMap → (c : Primitives) (plan : ℕ → ℕ) (tiles : ℕ) → IsTileable c plan tiles → (t : ℕ) (darts : List TileDart)
    → map tile_dart_code darts ≡ filter (is_present c plan t) (untiled_links c).darts → All (λ d. d.edge < 2 ^ 32) darts
    → AreKept (coverage_map c) (absent_darts c plan t) darts
are_kept has_map c plan tiles w t darts is small = record {
  is_map = has_map c w.few w.well_formed;
  edges = absent_edges c plan t w.few;
  in_order = record {
    small = small;
    rise = subst IsStrictlyIncreasing (sym is)
        (increasing_of (filter (is_present c plan t) (untiled_links c).darts) (kept_rise (is_present c plan t) (untiled_links c).darts (row_rises (length c.edges))));
  };
  kept = λ d. ap (stands_in d) is ∙ darts_are_live c plan t d;
}
